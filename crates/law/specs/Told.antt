-- How a book and its ledger stand beside their history.
use Rattle.std.specs.Prelude.{◌≡◌, ℕ, ◌∷◌}
use Rattle.rules.specs.declared.calls.Call.{Call}
use Rattle.rules.specs.Year.{Year}
use Rattle.rules.specs.Judgement.{Answer}
use Rattle.law.specs.Law.{Event, Past, year, holds, facts, Shows, Judged, Law, Everywhere}

-- The year y, the holdings f and the posts left m are those of the history p, which began at the holdings `start`.
pub record Told (start : ℕ → ℕ) (p : Past) (y : Year) (f : ℕ → ℕ) (m : ℕ) : Type 0 where
  pub judged : Judged start p
  pub year_is : y ≡ year (facts p)
  pub holds_is : (k : ℕ) → f k ≡ holds start (facts p) k
  pub shows : Shows m p

-- A call with the posts left before it, and its answer.
abbrev pub event : ℕ → Call → Answer → Event
event m c r = record { shown = m; call = c; answer = r }

-- The history goes on with the event, and the law holds at every history so far.
pub record LawfulNext (start : ℕ → ℕ) (e : Event) (p : Past) (y : Year) (f : ℕ → ℕ) (m : ℕ) : Type 0 where
  pub told : Told start (e ∷ p) y f m
  pub law : Everywhere (Law start) (e ∷ p)
