-- A register that tells exactly what is so still does after a change to both.
use Rattle.std.proofs.Common.{◌≡◌, ℕ, ◌≢◌, ◌⊎◌, List, [], Some, None, sym, subst, inl, inr, ⊎_elim}
use Rattle.registers.specs.Rows.{Rising, lookup, inserted, without, replaced}
use Rattle.registers.specs.Laws.{Member}
use Rattle.registers.proofs.Order.{rising_inserted, rising_without, rising_replaced}
use Rattle.registers.proofs.Members.{member_inserted, member_without, member_replaced}

-- The records xs, in rising order of number, are exactly those that are so.
pub record Tells {R : Type 0} (key : R → ℕ) (xs : List R) (So : R → Type 0) : Type 0 where
  pub rise : Rising key xs
  pub so : (x : R) → Member x xs → So x
  pub listed : (x : R) → So x → Member x xs

pub tells_none : {R : Type 0} (key : R → ℕ) → Tells key [] (λ _. ⊥)
tells_none key = record { rise = tt; so = λ x m. m; listed = λ x s. s }

module _ {R : Type 0} (key : R → ℕ) (xs : List R) (P : R → Type 0) (r : R) (new : P r) where
  -- What holds of the new record and of the old ones holds of each after a change.
  pub each_inserted : ((x : R) → Member x xs → P x) → (x : R) → Member x (inserted key r xs) → P x
  each_inserted old x m = ⊎_elim (λ (e : x ≡ r). subst P (sym e) new) (old x) ((member_inserted key r xs x).0 m)

  pub each_replaced : (was : R) → Rising key xs → lookup key (key r) xs ≡ Some was → ((x : R) → Member x xs → key x ≢ key r → P x) → (x : R) → Member x (replaced key r xs) → P x
  each_replaced was rise found old x m = ⊎_elim (λ (e : x ≡ r). subst P (sym e) new) (λ t. old x t.0 t.1) ((member_replaced key r xs was x rise found).0 m)

module _ {R : Type 0} (key : R → ℕ) (xs : List R) (So : R → Type 0) (tells : Tells key xs So) where
  pub tells_inserted : (r : R) → lookup key (key r) xs ≡ None → Tells key (inserted key r xs) (λ x. (x ≡ r) ⊎ So x)
  tells_inserted r free =
      record {
        rise = rising_inserted key r xs tells.rise free;
        so = λ x m. ⊎_elim inl (λ t. inr (tells.so x t)) ((member_inserted key r xs x).0 m);
        listed = λ x s. (member_inserted key r xs x).1 (⊎_elim inl (λ t. inr (tells.listed x t)) s);
      }

  pub tells_without : (n : ℕ) → Tells key (without key n xs) (λ x. (key x ≡ n → ⊥) × So x)
  tells_without n =
      let has = λ (x : R). member_without key n xs x tells.rise in
      record {
        rise = rising_without key n xs tells.rise;
        so = λ x m. let t = (has x).0 m in (t.1, tells.so x t.0);
        listed = λ x s. (has x).1 (tells.listed x s.1, s.0);
      }

  pub tells_replaced : (r old : R) → lookup key (key r) xs ≡ Some old → Tells key (replaced key r xs) (λ x. (x ≡ r) ⊎ ((key x ≡ key r → ⊥) × So x))
  tells_replaced r old found =
      let has = λ (x : R). member_replaced key r xs old x tells.rise found in
      record {
        rise = rising_replaced key r xs tells.rise;
        so = λ x m. ⊎_elim inl (λ t. inr (t.1, tells.so x t.0)) ((has x).0 m);
        listed = λ x s. (has x).1 (⊎_elim inl (λ t. inr (tells.listed x t.1, t.0)) s);
      }
