-- What each change keeps: what holds of every record, the order, and the range of the numbers.
use Rattle.std.proofs.Common.{◌≡◌, ℕ, ◌<◌, ◌≤◌, ltb, List, [], ◌∷◌, None, arith}
use Rattle.std.specs.List.{AllByRecursion}
use Rattle.std.proofs.lemmas.List.Elements.{All-from_recursion, recursion_from_All}
use Rattle.std.proofs.lemmas.Bool.{cond_both, ltb-true}
use Rattle.std.proofs.lemmas.Bool.Decides.{nat_tests}
use Rattle.registers.specs.Rows.{Above, Rising, Numbered, lookup, inserted, without, replaced}
use Rattle.registers.proofs.Walks.{by_order}

module _ {R : Type 0} (key : R → ℕ) where
  -- What holds of each record holds of each after a change.
  pub all_inserted : (P : R → Type 0) (r : R) (xs : List R) → P r → AllByRecursion P xs → AllByRecursion P (inserted key r xs)
  all_inserted P r [] new h = (new, tt)
  all_inserted P r (x ∷ xs) new h = cond_both (ltb (key x) (key r)) _ _ (AllByRecursion P) (λ _. (h.0, all_inserted P r xs new h.1)) (λ _. (new, h))

  pub all_without : (P : R → Type 0) (n : ℕ) (xs : List R) → AllByRecursion P xs → AllByRecursion P (without key n xs)
  all_without P n [] h = tt
  all_without P n (x ∷ xs) h = by_order key (AllByRecursion P) x n _ _ _ (λ _. (h.0, all_without P n xs h.1)) (λ _. h.1) (λ _. h)

  pub all_replaced : (P : R → Type 0) (r : R) (xs : List R) → ((x : R) → key x ≡ key r → P x → P r) → AllByRecursion P xs → AllByRecursion P (replaced key r xs)
  all_replaced P r [] new h = tt
  all_replaced P r (x ∷ xs) new h = by_order key (AllByRecursion P) x (key r) _ _ _ (λ _. (h.0, all_replaced P r xs new h.1)) (λ e. (new x e h.0, h.1)) (λ _. h)

  above_less : (m n : ℕ) (xs : List R) → m ≤ n → Above key n xs → Above key m xs
  above_less m n xs le h = recursion_from_All _ xs (λ k d lt. omega (arith, All-from_recursion _ xs h k d lt))

  pub rising_inserted : (r : R) (xs : List R) → Rising key xs → lookup key (key r) xs ≡ None → Rising key (inserted key r xs)
  rising_inserted r [] h none = (tt, tt)
  rising_inserted r (x ∷ xs) h none =
      cond_both (ltb (key x) (key r)) _ _ (Rising key)
      (λ e. (all_inserted _ r xs (ltb-true (key x) (key r) e) h.0, rising_inserted r xs h.1 (grind (arith, nat_tests))))
      (λ e. let lt : key r < key x = grind (arith, nat_tests) in ((lt, above_less (key r) (key x) xs (omega arith) h.0), h))

  pub rising_without : (n : ℕ) (xs : List R) → Rising key xs → Rising key (without key n xs)
  rising_without n [] h = tt
  rising_without n (x ∷ xs) h = by_order key (Rising key) x n _ _ _ (λ _. (all_without _ n xs h.0, rising_without n xs h.1)) (λ _. h.1) (λ _. h)

  pub rising_replaced : (r : R) (xs : List R) → Rising key xs → Rising key (replaced key r xs)
  rising_replaced r [] h = tt
  rising_replaced r (x ∷ xs) h =
      by_order key (Rising key) x (key r) _ _ _
      (λ _. (all_replaced _ r xs (λ y e lt. omega arith) h.0, rising_replaced r xs h.1))
      (λ e. (above_less (key r) (key x) xs (omega arith) h.0, h.1))
      (λ _. h)

  pub numbered_inserted : (n : ℕ) (r : R) (xs : List R) → Numbered key n xs → 0 < key r → key r ≤ n → lookup key (key r) xs ≡ None → Numbered key n (inserted key r xs)
  numbered_inserted n r xs h lt le none = (rising_inserted r xs h.0 none, all_inserted _ r xs lt h.1, all_inserted _ r xs le h.2)

  pub numbered_without : (n k : ℕ) (xs : List R) → Numbered key n xs → Numbered key n (without key k xs)
  numbered_without n k xs h = (rising_without k xs h.0, all_without _ k xs h.1, all_without _ k xs h.2)

  pub numbered_replaced : (n : ℕ) (r : R) (xs : List R) → Numbered key n xs → Numbered key n (replaced key r xs)
  numbered_replaced n r xs h = (rising_replaced r xs h.0, all_replaced _ r xs (λ x e lt. omega arith) h.1, all_replaced _ r xs (λ x e le. omega arith) h.2)
