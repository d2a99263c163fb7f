-- How many records there are after a change, and what they are worth together, whatever a record is worth.
use Rattle.std.proofs.Common.{◌≡◌, ℕ, ◌+◌, List, [], ◌∷◌, length, Some, sum_by, refl, arith}
use Rattle.std.proofs.lemmas.List.Sums.{sum_by-cons}
use Rattle.std.proofs.lemmas.Bool.Decides.{nat_tests}
use Rattle.registers.specs.Rows.{lookup, inserted, without, replaced}

-- A sum over the records, given by what one record more adds to it.
module _ {R : Type 0} (key worth : R → ℕ) (sum : List R → ℕ) (cons : (x : R) (xs : List R) → sum (x ∷ xs) ≡ worth x + sum xs) where
  any_inserted : (r : R) (xs : List R) → sum (inserted key r xs) ≡ sum xs + worth r
  any_inserted r [] = grind (arith, cons)
  any_inserted r (x ∷ xs) = let ih = any_inserted r xs in grind (arith, nat_tests, cons)

  any_without : (n : ℕ) (xs : List R) (x : R) → lookup key n xs ≡ Some x → sum (without key n xs) + worth x ≡ sum xs
  any_without n [] x found = cc
  any_without n (y ∷ ys) x found = let ih = any_without n ys x in grind (arith, nat_tests, cons)

  any_replaced : (r : R) (xs : List R) (x : R) → lookup key (key r) xs ≡ Some x → sum (replaced key r xs) + worth x ≡ sum xs + worth r
  any_replaced r [] x found = cc
  any_replaced r (y ∷ ys) x found = let ih = any_replaced r ys x in grind (arith, nat_tests, cons)

module _ {R : Type 0} (key worth : R → ℕ) where
  pub sum_inserted : (r : R) (xs : List R) → sum_by worth (inserted key r xs) ≡ sum_by worth xs + worth r
  sum_inserted = any_inserted key worth (sum_by worth) (sum_by-cons worth)

  pub sum_without : (n : ℕ) (xs : List R) (x : R) → lookup key n xs ≡ Some x → sum_by worth (without key n xs) + worth x ≡ sum_by worth xs
  sum_without = any_without key worth (sum_by worth) (sum_by-cons worth)

  pub sum_replaced : (r : R) (xs : List R) (x : R) → lookup key (key r) xs ≡ Some x → sum_by worth (replaced key r xs) + worth x ≡ sum_by worth xs + worth r
  sum_replaced = any_replaced key worth (sum_by worth) (sum_by-cons worth)

module _ {R : Type 0} (key : R → ℕ) where
  pub length_inserted : (r : R) (xs : List R) → length (inserted key r xs) ≡ length xs + 1
  length_inserted = any_inserted key (λ _. 1) length (λ x xs. omega arith)

  pub length_without : (n : ℕ) (xs : List R) (x : R) → lookup key n xs ≡ Some x → length (without key n xs) + 1 ≡ length xs
  length_without = any_without key (λ _. 1) length (λ x xs. omega arith)

  pub length_replaced : (r : R) (xs : List R) → length (replaced key r xs) ≡ length xs
  length_replaced r [] = refl
  length_replaced r (x ∷ xs) = let ih = length_replaced r xs in grind (arith, nat_tests)
