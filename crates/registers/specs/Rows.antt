-- Numbered records as lists: in strictly rising order of number, and what is found, put in, taken out and replaced.
-- Each walk goes from the front as far as the first number that is not below the one sought.
use Rattle.std.specs.Prelude.{ℕ, ◌<◌, ◌≤◌, cond, List, [], ◌∷◌, Some, None, Option, ◌==◌, nat_lt}
use Rattle.std.specs.List.{AllByRecursion}

module _ {R : Type 0} (key : R → ℕ) where
  -- Each number is above n.
  abbrev pub Above : ℕ → List R → Type 0
  Above n xs = AllByRecursion (λ x. n < key x) xs

  -- No number is above n.
  abbrev pub Within : ℕ → List R → Type 0
  Within n xs = AllByRecursion (λ x. key x ≤ n) xs

  -- The numbers rise strictly.
  abbrev pub Rising : List R → Type 0
  Rising [] = Unit {0}
  Rising (x ∷ xs) = Above (key x) xs × Rising xs

  -- The numbers rise strictly, from 1 to n.
  abbrev pub Numbered : ℕ → List R → Type 0
  Numbered n xs = Rising xs × Above 0 xs × Within n xs

  -- The record with the number n.
  abbrev pub lookup : ℕ → List R → Option R
  lookup n [] = None
  lookup n (x ∷ xs) = cond (nat_lt (key x) n) (lookup n xs) (cond (key x == n) (Some x) None)

  -- With r in its place.
  abbrev pub inserted : R → List R → List R
  inserted r [] = r ∷ []
  inserted r (x ∷ xs) = cond (nat_lt (key x) (key r)) (x ∷ inserted r xs) (r ∷ x ∷ xs)

  -- Without the record with the number n.
  abbrev pub without : ℕ → List R → List R
  without n [] = []
  without n (x ∷ xs) = cond (nat_lt (key x) n) (x ∷ without n xs) (cond (key x == n) xs (x ∷ xs))

  -- With r in the place of the record with its number.
  abbrev pub replaced : R → List R → List R
  replaced r [] = []
  replaced r (x ∷ xs) = cond (nat_lt (key x) (key r)) (x ∷ replaced r xs) (cond (key x == key r) (r ∷ xs) (x ∷ xs))
