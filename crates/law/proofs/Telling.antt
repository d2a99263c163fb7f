-- A call told by its contract goes on with the history.
use Rattle.std.proofs.Common.{◌≡◌, ℕ, ◌≤◌, cond, List, [], ◌∷◌, is_ok, Ok, Err, refl, ◌∙◌, subst, arith}
use mathlib.Core.Path.{fun_ext}
use Rattle.rules.specs.declared.calls.Call.{Call}
use Rattle.rules.specs.Year.{Year, blank_year}
use Rattle.rules.specs.Facts.{Fact, did, after, moved, posts_of}
use Rattle.rules.specs.Judgement.{Answer}
use Rattle.rules.specs.Calls.{Called}
use Rattle.law.specs.Law.{Past, year, holds, facts, also, posts_taken}
use Rattle.law.specs.Told.{Told, LawfulNext, event}
use Rattle.law.proofs.Lawful.{lawful}

-- a new book has no history
pub told_at_first : (f : ℕ → ℕ) (y : Year) (m : ℕ) → y ≡ blank_year → m ≤ 65535 → Told f [] y f m
told_at_first f y m blank few = record { judged = tt; year_is = blank; holds_is = λ k. refl; shows = few }

year_also : (r : Answer) (fact : Fact) (fs : List Fact) → cond (is_ok r) (after fact (year fs)) (year fs) ≡ year (also r fact fs)
year_also (Ok w) fact fs = refl
year_also (Err fault) fact fs = refl

holds_also : (start : ℕ → ℕ) (r : Answer) (fact : Fact) (fs : List Fact) (k : ℕ) → cond (is_ok r) (moved fact (holds start fs) k) (holds start fs k) ≡ holds start (also r fact fs) k
holds_also start (Ok w) fact fs k = refl
holds_also start (Err fault) fact fs k = refl

posts_also : (r : Answer) (fact : Fact) → cond (is_ok r) (posts_of fact) 0 ≡ posts_taken r fact
posts_also (Ok w) fact = refl
posts_also (Err fault) fact = refl

at_its_past : (start : ℕ → ℕ) (c : Call) (r : Answer) (fs : List Fact) (y y' : Year) (f g : ℕ → ℕ) (m n : ℕ) → y ≡ year fs → ((k : ℕ) → f k ≡ holds start fs k) → Called c r y y' f g m n → Called c r (year fs) y' (holds start fs) g m n
at_its_past start c r fs y y' f g m n same held called =
    subst (λ (h : ℕ → ℕ). Called c r (year fs) y' h g m n) (fun_ext held) (subst (λ (z : Year). Called c r z y' f g m n) same called)

pub told_next : (start : ℕ → ℕ) (p : Past) (c : Call) (r : Answer) (y y' : Year) (f g : ℕ → ℕ) (m n : ℕ) → Called c r y y' f g m n → Told start p y f m → Told start (event m c r ∷ p) y' g n
told_next start p c r y y' f g m n called told =
    let fs = facts p in
    let here = at_its_past start c r (facts p) y y' f g m n told.year_is told.holds_is called in
    let fact = did (year (facts p)) c in
    record {
      judged = (here.answer, told.shows, told.judged);
      year_is = here.year ∙ year_also r (did (year (facts p)) c) (facts p);
      holds_is = λ k. here.holds k ∙ holds_also start r (did (year (facts p)) c) (facts p) k;
      shows = (here.posts.0, omega (arith, here.posts.1, posts_also r (did (year (facts p)) c)));
    }

-- and the law holds at the longer history
pub lawful_next : (start : ℕ → ℕ) (p : Past) (c : Call) (r : Answer) (y y' : Year) (f g : ℕ → ℕ) (m n : ℕ) → Called c r y y' f g m n → Told start p y f m → LawfulNext start (event m c r) p y' g n
lawful_next start p c r y y' f g m n called told =
    let next = told_next start p c r y y' f g m n called told in
    record { told = next; law = lawful start (event m c r ∷ p) next.judged }
