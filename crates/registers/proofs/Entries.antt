-- What the entry of a record is answered, and what it keeps.
use Rattle.std.proofs.Common.{◌≡◌, ℕ, ◌+◌, ◌<◌, ◌≤◌, true, cond, List, [], ◌∷◌, length, is_some, is_ok, Some, None, Ok, Err, Result, sym, subst, arith}
use Rattle.std.proofs.lemmas.Bool.{cond_both}
use Rattle.std.proofs.lemmas.Bool.Decides.{nat_tests}
use Rattle.registers.specs.Held.{entering}
use Rattle.registers.specs.Rows.{Above, Within, Rising, Numbered, lookup, inserted, without}
use Rattle.registers.specs.declared.RegisterFault.{RegisterFault}
use Rattle.registers.specs.declared.RegisterFault.TheVariants.{InUse}
use Rattle.registers.proofs.Order.{rising_inserted, numbered_inserted}
use Rattle.registers.proofs.Sums.{length_without}

module _ {R : Type 0} (key : R → ℕ) where
  pub taken_in : (r : R) (places : ℕ) (xs : List R) → lookup key (key r) xs ≡ None → length xs < places → entering key r places xs ≡ Ok tt
  taken_in r places xs none lt = grind (arith, nat_tests)

  pub entered : (r : R) (places : ℕ) (xs : List R) → is_ok (entering key r places xs) ≡ true → (lookup key (key r) xs ≡ None) × (length xs < places)
  entered r places xs ok = (grind (arith, nat_tests), grind (arith, nat_tests))

  -- What holds of the records, and of them with a new one under a free number, holds after an entry, taken in or refused.
  pub by_entry : (P : List R → Type 0) (r : R) (places : ℕ) (xs ys : List R) (a : Result (Unit {0}) RegisterFault) → a ≡ entering key r places xs → ys ≡ cond (is_ok a) (inserted key r xs) xs → P xs → (lookup key (key r) xs ≡ None → length xs < places → P (inserted key r xs)) → P ys
  by_entry P r places xs ys a answer after old new =
      subst P (sym after) (cond_both (is_ok a) _ _ P (λ ok. let fresh = entered r places xs (rw answer at ok) in new fresh.0 fresh.1) (λ _. old))

  pub rising_entered : (r : R) (places : ℕ) (xs ys : List R) (a : Result (Unit {0}) RegisterFault) → a ≡ entering key r places xs → ys ≡ cond (is_ok a) (inserted key r xs) xs → Rising key xs → Rising key ys
  rising_entered r places xs ys a answer after h = by_entry (Rising key) r places xs ys a answer after h (λ none _. rising_inserted key r xs h none)

  pub numbered_entered : (n : ℕ) (r : R) (places : ℕ) (xs ys : List R) (a : Result (Unit {0}) RegisterFault) → a ≡ entering key r places xs → ys ≡ cond (is_ok a) (inserted key r xs) xs → 0 < key r → key r ≤ n → Numbered key n xs → Numbered key n ys
  numbered_entered n r places xs ys a answer after lt le h = by_entry (Numbered key n) r places xs ys a answer after h (λ none _. numbered_inserted key n r xs h lt le none)

  -- No more numbers lie between m and n.
  at_most : (m n : ℕ) (xs : List R) → m ≤ n → Above key m xs → Rising key xs → Within key n xs → length xs + m ≤ n
  at_most m n [] le a h w = omega arith
  at_most m n (x ∷ xs) le a h w = let ih = at_most (key x) n xs w.0 h.0 h.1 w.1 in omega (arith, a.0)

  -- Where one of them is missing, fewer do.
  fewer : (m n k : ℕ) (xs : List R) → Above key m xs → Rising key xs → Within key n xs → m < k → k ≤ n → lookup key k xs ≡ None → length xs + m < n
  fewer m n k [] a h w lt le none = omega arith
  fewer m n k (x ∷ xs) a h w lt le none =
      let ih : key x < k → lookup key k xs ≡ None → length xs + key x < n = λ low no. fewer (key x) n k xs h.0 h.1 w.1 low le no in
      let all = at_most (key x) n xs w.0 h.0 h.1 w.1 in
      let first = a.0 in
      grind (arith, nat_tests)

  -- With a place for each number from 1 to n, a free number has a free place.
  pub place_for : (n k : ℕ) (xs : List R) → Numbered key n xs → 0 < k → k ≤ n → lookup key k xs ≡ None → length xs < n
  place_for n k xs h lt le none = let few = fewer 0 n k xs h.1 h.0 h.2 lt le none in omega arith

  pub full_has_each : (n k : ℕ) (xs : List R) → Numbered key n xs → length xs ≡ n → 0 < k → k ≤ n → is_some (lookup key k xs) ≡ true
  full_has_each n k xs h full lt le = let free = place_for n k xs h lt le in grind arith

  -- Where a free number has a free place, an entry is refused only for a number in use.
  pub has_place : (r : R) (places : ℕ) (xs : List R) → (lookup key (key r) xs ≡ None → length xs < places) → entering key r places xs ≡ cond (is_some (lookup key (key r) xs)) (Err InUse) (Ok tt)
  has_place r places xs free = grind (arith, nat_tests)

  pub never_full : (n : ℕ) (r : R) (xs : List R) → Numbered key n xs → 0 < key r → key r ≤ n → entering key r n xs ≡ cond (is_some (lookup key (key r) xs)) (Err InUse) (Ok tt)
  never_full n r xs h lt le = has_place r n xs (place_for n (key r) xs h lt le)

  pub freed_place : (places : ℕ) (xs : List R) (n : ℕ) (old r : R) → length xs ≤ places → lookup key n xs ≡ Some old → lookup key (key r) (without key n xs) ≡ None → entering key r places (without key n xs) ≡ Ok tt
  freed_place places xs n old r le found none = taken_in r places (without key n xs) none (omega (arith, length_without key n xs old found))
