-- What every call of the book promises.
use Rattle.std.specs.Prelude.{◌≡◌, ℕ, ◌+◌, ◌≤◌, cond, is_ok}
use Rattle.rules.specs.declared.calls.Call.{Call}
use Rattle.rules.specs.Year.{Year}
use Rattle.rules.specs.Facts.{did, after, moved, posts_of}
use Rattle.rules.specs.Judgement.{Answer, judge}

-- The call c, answered r, takes the year y, the holdings f and the posts left m to y', g and n:
-- the answer is the judgement; an accepted call has done its fact and nothing else, a refused one nothing at all.
-- How far the posts left fall is the ledger's: one for each post at most.
pub record Called (c : Call) (r : Answer) (y y' : Year) (f g : ℕ → ℕ) (m n : ℕ) : Type 0 where
  pub answer : r ≡ judge y f m c
  pub year : y' ≡ cond (is_ok r) (after (did y c) y) y
  pub holds : (k : ℕ) → g k ≡ cond (is_ok r) (moved (did y c) f k) (f k)
  pub posts : (n ≤ m) × (m ≤ n + cond (is_ok r) (posts_of (did y c)) 0)
