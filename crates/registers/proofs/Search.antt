-- What a binary search finds among records in rising order.
use Rattle.std.proofs.Common.{◌≡◌, ℕ, ◌+◌, ◌-◌, ◌<◌, ◌≤◌, List, [], ◌∷◌, length, get_or, take, drop, zero, suc, Ok, Err, Result, MatchResult, sym, ap, ◌∙◌, ⊎_elim, arith, length-take, length-drop}
use mathlib.Core.Logic.{∥∥₁_elim}
use Rattle.std.specs.List.{AllWithin}
use Rattle.std.specs.List.Sorted.{IsSearchInRange, IsBinarySearchResult, IsNonDecreasingBy}
use Rattle.std.specs.Ordering.{nat_cmp, ordering_index}
use Rattle.std.proofs.lemmas.List.{get_or-take, get_or-drop, get_or_read}
use Rattle.std.proofs.lemmas.List.Elements.{All-from_recursion}
use Rattle.std.proofs.lemmas.Cmp.{ranked}
use native.Mathlib.Bridge.{le_prop}
use Rattle.std.proofs.lemmas.Bool.{cases_lt}
use Rattle.std.proofs.lemmas.Bool.Decides.{nat_tests}
use Rattle.registers.specs.Places.{Stands, Enters}
use Rattle.registers.specs.Rows.{Rising}
use Rattle.registers.proofs.Walks.{stands, enters}

module _ {R : Type 0} (key : R → ℕ) where
  -- Each number is below those after it.
  rises : (xs : List R) (i j : ℕ) (d : R) → Rising key xs → i < j → j < length xs → key (get_or xs i d) < key (get_or xs j d)
  rises [] i j d h lt within = absurd (omega arith)
  rises (x ∷ xs) i zero d h lt within = absurd (omega arith)
  rises (x ∷ xs) zero (suc j) d h lt within = All-from_recursion (λ y. key x < key y) xs h.0 j d (omega arith)
  rises (x ∷ xs) (suc i) (suc j) d h lt within = rises xs i j d h.1 (omega arith) (omega arith)

  module _ (n : ℕ) (xs : List R) (rising : ∥ Rising key xs ∥₁) where
    apart : (i j : ℕ) (d : R) → i < j → j < length xs → key (get_or xs i d) < key (get_or xs j d)
    apart i j d lt within = ∥∥₁_elim rising le_prop (λ h. rises xs i j d h lt within)

    level : (i j : ℕ) (d : R) → i ≤ j → j < length xs → key (get_or xs i d) ≤ key (get_or xs j d)
    level i j d le within = grind (arith, apart i j d, λ (same : i ≡ j). ap (λ k. key (get_or xs k d)) same)

    -- The last record of a front that is below n tells of the others there, one that is not below n of those behind.
    pub ahead : (end : ℕ) (x : R) → end ≤ length xs → x ≡ get_or xs (end - 1) x → key x < n → AllWithin (λ y. key y < n) xs 0 end
    ahead end x within is low k d le lt = omega (arith, level k (end - 1) d (omega arith) (omega arith), ap key (get_or_read xs (end - 1) x (omega arith) is d))

    pub behind : (end : ℕ) (x : R) → 0 < end → end ≤ length xs → x ≡ get_or xs (end - 1) x → n ≤ key x → AllWithin (λ y. n < key y) xs end (length xs)
    behind end x some within is high k d le lt = omega (arith, apart (end - 1) k d (omega arith) lt, ap key (get_or_read xs (end - 1) x (omega arith) is d))

    -- What a search of the records from a to b tells, where those ahead are below n and those behind above.
    module _ (a b : ℕ) (ys : List R) (part : ys ≡ take (b - a) (drop a xs)) (order : a ≤ b) (end : b ≤ length xs) where
      long : length ys ≡ b - a
      long = ap length part ∙ omega (arith, length-take (b - a) (drop a xs), length-drop a xs)

      there : (k : ℕ) (d : R) → k < b - a → key (get_or ys k d) ≡ key (get_or xs (a + k) d)
      there k d lt = ap key (ap (λ zs. get_or zs k d) part ∙ get_or-take (b - a) (drop a xs) k d lt ∙ get_or-drop a xs k d)

      from : (k : ℕ) (d : R) → a ≤ k → k < b → key (get_or ys (k - a) d) ≡ key (get_or xs k d)
      from k d le lt = there (k - a) d (omega arith) ∙ ap (λ j. key (get_or xs j d)) (omega arith)

      -- The comparisons with n rise, as a binary search asks.
      comparisons_rise : IsNonDecreasingBy (λ x. ordering_index (nat_cmp (key x) n)) ys
      comparisons_rise i j d le within =
          let rise : key (get_or ys i d) ≤ key (get_or ys j d) = omega (arith, there i d (omega (arith, long)), there j d (omega (arith, long)), level (a + i) (a + j) d (omega arith) (omega (arith, long))) in
          grind (arith, nat_tests)

      pub searched : (r : Result ℕ ℕ) → AllWithin (λ y. key y < n) xs 0 a → AllWithin (λ y. n < key y) xs b (length xs) → IsSearchInRange r (length ys) → IsBinarySearchResult (λ x. nat_cmp (key x) n) ys r → MatchResult r (λ i. Stands key n (a + i) xs) (λ i. Enters key n (a + i) xs)
      searched (Ok i) low high within equal =
          let at = λ (d : R). sym (there i d (omega (arith, long))) ∙ ranked (key (get_or ys i d)) n _ (sym (equal d)) in
          stands key n (a + i) xs (omega (arith, long)) (λ k d le lt. omega (arith, apart k (a + i) d lt (omega (arith, long)), at d)) at
      searched (Err i) low high within parted =
          let split = parted comparisons_rise in
          enters key n (a + i) xs (omega (arith, long))
          (λ k d le lt. ⊎_elim (λ (h : k < a). low k d le h) (λ (h : a ≤ k). let less : key (get_or ys (k - a) d) < n = ranked _ n _ (sym (split.0 (k - a) d (omega arith) (omega arith))) in omega (arith, less, from k d h (omega (arith, long)))) (cases_lt k a))
          (λ k d le lt. ⊎_elim (λ (h : k < b). let more : n < key (get_or ys (k - a) d) = ranked _ n _ (sym (split.1 (k - a) d (omega arith) (omega (arith, long)))) in omega (arith, more, from k d (omega arith) h)) (λ (h : b ≤ k). high k d h lt) (cases_lt k b))
