-- What the walks give, by the place where they stop.
use Rattle.std.proofs.Common.{◌≡◌, ℕ, ◌+◌, ◌<◌, ◌≤◌, cond, ◌&&◌, eqb, ltb, List, [], ◌∷◌, length, get_or, zero, suc, is_some, None, refl, one-add, arith}
use Rattle.std.specs.List.{AllWithin, HoldsAt, prefix_len, insert as opened}
use Rattle.std.proofs.lemmas.Bool.{cond_both, ltb-true, ltb-false, eqb-true, eqb-false}
use Rattle.std.proofs.lemmas.Bool.Decides.{nat_tests}
use Rattle.std.proofs.lemmas.List.Sums.{prefix_len-le-length}
use Rattle.registers.specs.Places.{Stands, Enters}
use Rattle.registers.specs.Rows.{lookup, inserted, without, replaced}

opened_more : {X : Type 0} (y x : X) (xs : List X) (i : ℕ) → opened (x ∷ xs) (1 + i) y ≡ x ∷ opened xs i y
opened_more y x xs i = rw one-add refl

module _ {R : Type 0} (key : R → ℕ) where
  -- Each record is below, at or above the number sought.
  pub by_order : {X : Type 0} (P : X → Type 0) (x : R) (n : ℕ) (a b c : X) → (key x < n → P a) → (key x ≡ n → P b) → (n < key x → P c) → P (cond (ltb (key x) n) a (cond (eqb (key x) n) b c))
  by_order P x n a b c below at above =
      cond_both (ltb (key x) n) a (cond (eqb (key x) n) b c) P (λ e. below (ltb-true (key x) n e)) (λ e. cond_both (eqb (key x) n) b c P (λ f. at (eqb-true (key x) n f)) (λ f. let le = ltb-false (key x) n e in let ne = eqb-false (key x) n f in above (omega arith)))

  -- A walk goes past each record with a lower number.
  later : (P : R → Type 0) (x : R) (xs : List R) (i : ℕ) → AllWithin P (x ∷ xs) 0 (suc i) → AllWithin P xs 0 i
  later P x xs i all = λ k d le lt. all (suc k) d (omega arith) (omega arith)

  pub stands : (n i : ℕ) (xs : List R) → i < length xs → AllWithin (λ x. key x < n) xs 0 i → HoldsAt (λ x. key x ≡ n) xs i → Stands key n i xs
  stands n i [] lt below at = absurd (omega arith)
  stands n zero (x ∷ xs) lt below at =
      let same : key x ≡ n = at x in
      record {
        within = lt;
        some = grind (arith, nat_tests);
        found = λ d. grind (arith, nat_tests);
        out = grind (arith, nat_tests);
        instead = λ r e. grind (arith, nat_tests);
      }
  stands n (suc i) (x ∷ xs) lt below at =
      let low : key x < n = below 0 x (omega arith) (omega arith) in
      let ih = stands n i xs (omega arith) (later (λ y. key y < n) x xs i below) at in
      record {
        within = lt;
        some = grind (arith, nat_tests, ih.some);
        found = λ d. grind (arith, nat_tests, ih.found d);
        out = grind (arith, nat_tests, ih.out);
        instead = λ r e. grind (arith, nat_tests, ih.instead r e);
      }

  pub enters : (n i : ℕ) (xs : List R) → i ≤ length xs → AllWithin (λ x. key x < n) xs 0 i → AllWithin (λ x. n < key x) xs i (length xs) → Enters key n i xs
  enters n zero [] le below above = record { within = le; none = grind (arith, nat_tests); out = grind arith; instead = λ r e. grind arith; put_in = λ r e. grind arith }
  enters n (suc i) [] le below above = absurd (omega arith)
  enters n zero (x ∷ xs) le below above =
      let high : n < key x = above 0 x (omega arith) (omega arith) in
      record {
        within = le;
        none = grind (arith, nat_tests);
        out = grind (arith, nat_tests);
        instead = λ r e. grind (arith, nat_tests);
        put_in = λ r e. grind (arith, nat_tests);
      }
  enters n (suc i) (x ∷ xs) le below above =
      let low : key x < n = below 0 x (omega arith) (omega arith) in
      let ih = enters n i xs (omega arith) (later (λ y. key y < n) x xs i below) (λ k d from to. above (suc k) d (omega arith) (omega arith)) in
      record {
        within = le;
        none = grind (arith, nat_tests, ih.none);
        out = grind (arith, nat_tests, ih.out);
        instead = λ r e. grind (arith, nat_tests, ih.instead r e);
        put_in = λ r e. grind (arith, nat_tests, ih.put_in r e);
      }

  -- Where no record is found there is none to take out or replace.
  pub without_none : (n : ℕ) (xs : List R) → lookup key n xs ≡ None → without key n xs ≡ xs
  without_none n [] none = refl
  without_none n (x ∷ xs) none = let ih = without_none n xs in grind (arith, nat_tests)

  pub replaced_none : (r : R) (xs : List R) → lookup key (key r) xs ≡ None → replaced key r xs ≡ xs
  replaced_none r [] none = refl
  replaced_none r (x ∷ xs) none = let ih = replaced_none r xs in grind (arith, nat_tests)

  -- In any order, by how many records at the front have a number below n: a record is found where the first number that is not below is the one sought.
  lookup_test : (n : ℕ) (xs : List R) (d : R) → is_some (lookup key n xs) ≡ (ltb (prefix_len (λ y. ltb (key y) n) xs) (length xs) && eqb (key (get_or xs (prefix_len (λ y. ltb (key y) n) xs) d)) n)
  lookup_test n [] d = refl
  lookup_test n (x ∷ xs) d = let ih = lookup_test n xs d in grind (arith, nat_tests)

  inserted_at : (r : R) (xs : List R) → inserted key r xs ≡ opened xs (prefix_len (λ y. ltb (key y) (key r)) xs) r
  inserted_at r [] = refl
  inserted_at r (x ∷ xs) = let ih = inserted_at r xs in let more = opened_more r x xs in grind (arith, nat_tests)

  pub none_at : (n i : ℕ) (xs : List R) (x : R) → i ≡ prefix_len (λ y. ltb (key y) n) xs → i < length xs → x ≡ get_or xs i x → (key x ≡ n → ⊥) → lookup key n xs ≡ None
  none_at n i xs x at lt is other = let test = lookup_test n xs x in grind (arith, nat_tests)

  pub none_past : (n i : ℕ) (xs : List R) → i ≡ prefix_len (λ y. ltb (key y) n) xs → length xs ≤ i → lookup key n xs ≡ None
  none_past n i [] at le = refl
  none_past n i (x ∷ xs) at le = let test = lookup_test n (x ∷ xs) x in grind (arith, nat_tests)

  pub enters_at : (n i : ℕ) (xs : List R) → i ≡ prefix_len (λ y. ltb (key y) n) xs → lookup key n xs ≡ None → Enters key n i xs
  enters_at n i xs at none =
      record {
        within = rw at (prefix_len-le-length _ xs);
        none = none;
        out = without_none n xs none;
        instead = λ r e. replaced_none r xs (rw e none);
        put_in = λ r e. rw (at, ← e) (inserted_at r xs);
      }
