-- The history of a run, and what holds of it.
use Rattle.std.specs.Prelude.{ℕ, zero, suc, List, [], ◌∷◌, Ok, slice_index_or}
use Rattle.rules.specs.declared.calls.Call.{Call}
use Rattle.rules.specs.declared.calls.Call.TheVariants.{Close}
use Rattle.rules.specs.declared.calls.Reply.TheVariants.{Done}
use Rattle.rules.specs.Year.{Year}
use Rattle.law.specs.Law.{Past, Law, Everywhere}
use Rattle.law.specs.Told.{Told, event}
use Rattle.runs.specs.declared.Outcome.{Outcome}

abbrev pub no_outcome : Outcome
no_outcome = record { shown = 0; answer = Ok Done }

-- The first n calls with their outcomes, the latest first.
abbrev pub history : ℕ → List Call → List Outcome → Past
history zero calls outcomes = []
history (suc n) calls outcomes = event (slice_index_or outcomes n no_outcome).shown (slice_index_or calls n Close) (slice_index_or outcomes n no_outcome).answer ∷ history n calls outcomes

-- The year, the holdings and the posts left are those of the history, and the law holds at it and at every history it grew from.
pub record Ran (start : ℕ → ℕ) (p : Past) (y : Year) (f : ℕ → ℕ) (m : ℕ) : Type 0 where
  pub told : Told start p y f m
  pub law : Everywhere (Law start) p
