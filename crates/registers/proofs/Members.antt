-- Which records a list has after a change, and which one is found.
use Rattle.std.proofs.Common.{◌≡◌, ℕ, ◌<◌, ◌≤◌, cond, eqb, ltb, ◌≢◌, ◌⊎◌, ◌↔◌, List, [], ◌∷◌, Some, None, sym, refl, ap, ◌∙◌, subst, inl, inr, ⊎_elim, arith}
use mathlib.Core.Logic.Iff
use Rattle.std.specs.List.{AllByRecursion}
use Rattle.std.proofs.lemmas.Bool.{cond_both}
use Rattle.std.proofs.lemmas.Bool.Decides.{nat_tests}
use Rattle.registers.specs.Laws.{Member}
use Rattle.registers.specs.Rows.{Above, Rising, lookup, inserted, without, replaced}
use Rattle.registers.proofs.Walks.{by_order}

pub all_member : {R : Type 0} (P : R → Type 0) (xs : List R) (x : R) → AllByRecursion P xs → Member x xs → P x
all_member P [] x h m = absurd m
all_member P (y ∷ ys) x h m = ⊎_elim (λ e. subst P (sym e) h.0) (λ t. all_member P ys x h.1 t) m

-- A new alternative, past one that was there.
past : {A B P Q : Type 0} → A ↔ (P ⊎ B) → (Q ⊎ A) ↔ (P ⊎ (Q ⊎ B))
past h = (⊎_elim (λ q. inr (inl q)) (λ a. ⊎_elim inl (λ b. inr (inr b)) (h.0 a)), ⊎_elim (λ p. inr (h.1 (inl p))) (⊎_elim inl (λ b. inr (h.1 (inr b)))))

module _ {R : Type 0} (key : R → ℕ) where
  pub member_later : (x y : R) (ys : List R) → Rising key (y ∷ ys) → Member x ys → key y < key x
  member_later x y ys h t = all_member _ ys x h.0 t

  pub lookup_has : (n : ℕ) (xs : List R) (x : R) → lookup key n xs ≡ Some x → Member x xs × (key x ≡ n)
  lookup_has n [] x = λ found. absurd cc
  lookup_has n (y ∷ ys) x =
      by_order key (λ o. o ≡ Some x → Member x (y ∷ ys) × (key x ≡ n)) y n _ _ _
      (λ _ found. let there = lookup_has n ys x found in (inr there.0, there.1))
      (λ same found. let e : x ≡ y = cc in (inl e, ap key e ∙ same))
      (λ _ found. absurd cc)

  pub lookup_member : (n : ℕ) (xs : List R) (x : R) → Rising key xs → Member x xs → key x ≡ n → lookup key n xs ≡ Some x
  lookup_member n [] x h m at = absurd m
  lookup_member n (y ∷ ys) x h m at =
      by_order key (λ o. o ≡ Some x) y n _ _ _
      (λ low. ⊎_elim (λ e. absurd (omega (arith, ap key e))) (λ t. lookup_member n ys x h.1 t at) m)
      (λ same. ⊎_elim (λ e. ap Some (sym e)) (λ t. absurd (omega (arith, member_later x y ys h t))) m)
      (λ high. ⊎_elim (λ e. absurd (omega (arith, ap key e))) (λ t. absurd (omega (arith, member_later x y ys h t))) m)

  pub member_inserted : (r : R) (xs : List R) (x : R) → Member x (inserted key r xs) ↔ ((x ≡ r) ⊎ Member x xs)
  member_inserted r [] x = Iff.rfl
  member_inserted r (y ∷ ys) x = cond_both (ltb (key y) (key r)) _ _ (λ zs. Member x zs ↔ ((x ≡ r) ⊎ Member x (y ∷ ys))) (λ _. past (member_inserted r ys x)) (λ _. Iff.rfl)

  pub member_without : (n : ℕ) (xs : List R) (x : R) → Rising key xs → Member x (without key n xs) ↔ (Member x xs × (key x ≢ n))
  member_without n [] x h = (λ m. absurd m, λ q. q.0)
  member_without n (y ∷ ys) x h =
      let ih = member_without n ys x h.1 in
      by_order key (λ zs. Member x zs ↔ (Member x (y ∷ ys) × (key x ≢ n))) y n _ _ _
      (λ low. (⊎_elim (λ e. (inl e, λ at. omega (arith, ap key e))) (λ t. let q = ih.0 t in (inr q.0, q.1)), λ q. ⊎_elim inl (λ t. inr (ih.1 (t, q.1))) q.0))
      (λ same. (λ t. (inr t, λ at. omega (arith, member_later x y ys h t)), λ q. ⊎_elim (λ e. absurd (q.1 (ap key e ∙ same))) (λ t. t) q.0))
      (λ high. (λ m. (m, λ at. ⊎_elim (λ e. omega (arith, ap key e)) (λ t. omega (arith, member_later x y ys h t)) m), λ q. q.0))

  pub member_replaced : (r : R) (xs : List R) (old x : R) → Rising key xs → lookup key (key r) xs ≡ Some old → Member x (replaced key r xs) ↔ ((x ≡ r) ⊎ (Member x xs × (key x ≢ key r)))
  member_replaced r [] old x h found = absurd cc
  member_replaced r (y ∷ ys) old x h found =
      by_order key (λ zs. Member x zs ↔ ((x ≡ r) ⊎ (Member x (y ∷ ys) × (key x ≢ key r)))) y (key r) _ _ _
      (λ low.
      let further : lookup key (key r) ys ≡ Some old = grind (arith, nat_tests) in
      let ih = member_replaced r ys old x h.1 further in
      (⊎_elim (λ e. inr (inl e, λ at. omega (arith, ap key e))) (λ t. ⊎_elim inl (λ q. inr (inr q.0, q.1)) (ih.0 t)), ⊎_elim (λ e. inr (ih.1 (inl e))) (λ q. ⊎_elim inl (λ t. inr (ih.1 (inr (t, q.1)))) q.0)))
      (λ same. (⊎_elim inl (λ t. inr (inr t, λ at. omega (arith, member_later x y ys h t))), ⊎_elim inl (λ q. ⊎_elim (λ e. absurd (q.1 (ap key e ∙ same))) inr q.0)))
      (λ high. let none : None ≡ Some old = grind (arith, nat_tests) in absurd cc)

  -- No number up to m is found where each is above m.
  lookup_above : (n m : ℕ) (xs : List R) → n ≤ m → Above key m xs → lookup key n xs ≡ None
  lookup_above n m [] le h = refl
  lookup_above n m (x ∷ xs) le h = let first = h.0 in grind (arith, nat_tests)

  pub lookup_inserted : (n : ℕ) (r : R) (xs : List R) → lookup key n (inserted key r xs) ≡ cond (eqb (key r) n) (Some r) (lookup key n xs)
  lookup_inserted n r [] = grind (arith, nat_tests)
  lookup_inserted n r (x ∷ xs) = let ih = lookup_inserted n r xs in grind (arith, nat_tests)

  pub lookup_without : (n m : ℕ) (xs : List R) → Rising key xs → lookup key n (without key m xs) ≡ cond (eqb m n) None (lookup key n xs)
  lookup_without n m [] h = grind (arith, nat_tests)
  lookup_without n m (x ∷ xs) h =
      let ih = lookup_without n m xs h.1 in
      let none : n ≤ key x → lookup key n xs ≡ None = λ le. lookup_above n (key x) xs le h.0 in
      grind (arith, nat_tests)

  pub lookup_replaced : (n : ℕ) (r : R) (xs : List R) (old : R) → lookup key (key r) xs ≡ Some old → lookup key n (replaced key r xs) ≡ cond (eqb (key r) n) (Some r) (lookup key n xs)
  lookup_replaced n r [] old found = absurd cc
  lookup_replaced n r (x ∷ xs) old found = let ih = lookup_replaced n r xs old in grind (arith, nat_tests)

  -- A record with a number above the first is among the others.
  member_others : (x y : R) (ys : List R) → key y < key x → Member x (y ∷ ys) → Member x ys
  member_others x y ys lt m = ⊎_elim (λ e. absurd (omega (arith, ap key e))) (λ t. t) m

  pub same_records : (xs ys : List R) → Rising key xs → Rising key ys → ((x : R) → Member x xs ↔ Member x ys) → xs ≡ ys
  same_records [] [] h k same = refl
  same_records [] (y ∷ ys) h k same = absurd ((same y).1 (inl refl))
  same_records (x ∷ xs) [] h k same = absurd ((same x).0 (inl refl))
  same_records (x ∷ xs) (y ∷ ys) h k same =
      let first : x ≡ y = ⊎_elim (λ e. e) (λ t. ⊎_elim sym (λ u. absurd (omega (arith, member_later x y ys k t, member_later y x xs h u))) ((same y).1 (inl refl))) ((same x).0 (inl refl)) in
      let level = ap key first in
      let others : (z : R) → Member z xs ↔ Member z ys = λ z. (λ t. member_others z y ys (omega (arith, member_later z x xs h t)) ((same z).0 (inr t)), λ t. member_others z x xs (omega (arith, member_later z y ys k t)) ((same z).1 (inr t))) in
      let rest = same_records xs ys h.1 k.1 others in
      cc
