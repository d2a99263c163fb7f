-- The laws of a register, in terms of the records that a list has.
use Rattle.std.specs.Prelude.{◌≡◌, ℕ, ◌+◌, ◌<◌, ◌≤◌, true, cond, ◌≢◌, ◌⊎◌, ◌↔◌, List, [], ◌∷◌, length, is_some, Some, None, Ok, Err, sum_by, ◌==◌}
use Rattle.registers.specs.Held.{entering}
use Rattle.registers.specs.Rows.{Rising, Numbered, lookup, inserted, without, replaced}
use Rattle.registers.specs.declared.RegisterFault.TheVariants.{InUse}

-- The record x is in the list.
abbrev pub Member : {R : Type 0} → R → List R → Type 0
Member x [] = ⊥
Member x (y ∷ ys) = (x ≡ y) ⊎ Member x ys

module _ {R : Type 0} (key : R → ℕ) where
  -- In rising order each record is found by its number, and no other is.
  abbrev pub FindsExactlyItsRecords : Type 0
  FindsExactlyItsRecords = (xs : List R) → Rising key xs → (n : ℕ) (x : R) → (lookup key n xs ≡ Some x) ↔ (Member x xs × (key x ≡ n))

  -- A record put in under a free number is there beside the old ones, in rising order.
  abbrev pub GainsExactlyTheNewRecord : Type 0
  GainsExactlyTheNewRecord = (xs : List R) (r : R) → Rising key xs → lookup key (key r) xs ≡ None → Rising key (inserted key r xs) × ((x : R) → Member x (inserted key r xs) ↔ ((x ≡ r) ⊎ Member x xs))

  -- After a removal the records with other numbers are there, in rising order.
  abbrev pub LosesExactlyTheRemovedRecord : Type 0
  LosesExactlyTheRemovedRecord = (xs : List R) (n : ℕ) → Rising key xs → Rising key (without key n xs) × ((x : R) → Member x (without key n xs) ↔ (Member x xs × (key x ≢ n)))

  -- After a replacement the new record is there with those of other numbers, in rising order.
  abbrev pub ExchangesExactlyTheReplacedRecord : Type 0
  ExchangesExactlyTheReplacedRecord = (xs : List R) (r old : R) → Rising key xs → lookup key (key r) xs ≡ Some old → Rising key (replaced key r xs) × ((x : R) → Member x (replaced key r xs) ↔ ((x ≡ r) ⊎ (Member x xs × (key x ≢ key r))))

  -- Each number is answered as before a change, but for the one changed.
  abbrev pub ChangesOneNumberOnly : Type 0
  ChangesOneNumberOnly = (n : ℕ) (xs : List R) → Rising key xs → ((r : R) → lookup key n (inserted key r xs) ≡ cond (key r == n) (Some r) (lookup key n xs)) × ((m : ℕ) → lookup key n (without key m xs) ≡ cond (m == n) None (lookup key n xs)) × ((r old : R) → lookup key (key r) xs ≡ Some old → lookup key n (replaced key r xs) ≡ cond (key r == n) (Some r) (lookup key n xs))

  -- Whatever a record is worth, a sum over the records gains a new one, loses a removed one, and exchanges a replaced one.
  abbrev pub AddsUpAfterEachChange : Type 0
  AddsUpAfterEachChange = (worth : R → ℕ) (xs : List R) → ((r : R) → sum_by worth (inserted key r xs) ≡ sum_by worth xs + worth r) × ((n : ℕ) (old : R) → lookup key n xs ≡ Some old → sum_by worth (without key n xs) + worth old ≡ sum_by worth xs) × ((r old : R) → lookup key (key r) xs ≡ Some old → sum_by worth (replaced key r xs) + worth old ≡ sum_by worth xs + worth r)

  -- Rising order leaves one list for the same records.
  abbrev pub HasOneOrderOnly : Type 0
  HasOneOrderOnly = (xs ys : List R) → Rising key xs → Rising key ys → ((x : R) → Member x xs ↔ Member x ys) → xs ≡ ys

  -- With n places for the numbers 1 to n, a full register has each number, and no record is refused for want of a place.
  abbrev pub HasAPlaceForEachNumber : Type 0
  HasAPlaceForEachNumber = (n : ℕ) (xs : List R) → Numbered key n xs → ((k : ℕ) → length xs ≡ n → 0 < k → k ≤ n → is_some (lookup key k xs) ≡ true) × ((r : R) → 0 < key r → key r ≤ n → entering key r n xs ≡ cond (is_some (lookup key (key r) xs)) (Err InUse) (Ok tt))

  -- A place freed by removal is used again.
  abbrev pub UsesAFreedPlaceAgain : Type 0
  UsesAFreedPlaceAgain = (places : ℕ) (xs : List R) (n : ℕ) (old r : R) → length xs ≤ places → lookup key n xs ≡ Some old → lookup key (key r) (without key n xs) ≡ None → entering key r places (without key n xs) ≡ Ok tt
