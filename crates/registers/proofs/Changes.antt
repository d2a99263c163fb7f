-- Each change keeps the order, told by the place where it is made.
use Rattle.std.proofs.Common.{◌≡◌, ℕ, ◌<◌, List, [], ◌∷◌, length, get_or, set, zero, suc, Some, Ok, Err, Result, MatchResult, sym, ◌∙◌, subst, arith}
use mathlib.Core.Logic.{∥∥₁_map}
use Rattle.std.specs.List.{AllByRecursion, HoldsAt, insert as opened, remove as closed}
use Rattle.std.specs.Result.{result_ok}
use Rattle.std.proofs.lemmas.List.Elements.{All-from_recursion}
use Rattle.registers.specs.Places.{Stands, Enters}
use Rattle.registers.specs.Rows.{Above, Rising}
use Rattle.registers.proofs.Members.{lookup_has}
use Rattle.registers.proofs.Order.{rising_inserted}

module _ {R : Type 0} (key : R → ℕ) where
  -- Where a search was answered with a place, the record stands there.
  pub found : (n i : ℕ) (xs : List R) (r : Result ℕ ℕ) → MatchResult r (λ k. Stands key n k xs) (λ k. Enters key n k xs) → Some i ≡ result_ok r → Stands key n i xs
  found n i xs (Ok k) there e = subst (λ j. Stands key n j xs) (cc) there
  found n i xs (Err k) there e = absurd (cc)

  pub numbered : (n i : ℕ) (xs : List R) → Stands key n i xs → HoldsAt (λ x. key x ≡ n) xs i
  numbered n i xs there d = (lookup_has key n xs _ (there.found d)).1

  pub rising_opened : (n i : ℕ) (r : R) (xs ys : List R) → n ≡ key r → Enters key n i xs → ys ≡ opened xs i r → ∥ Rising key xs ∥₁ → ∥ Rising key ys ∥₁
  rising_opened n i r xs ys same there after h = ∥∥₁_map h (λ rising. subst (Rising key) (there.put_in r (sym same) ∙ sym after) (rising_inserted key r xs rising (rw same at there.none)))

  -- Any record may go out.
  all_closed : (P : R → Type 0) (i : ℕ) (xs : List R) → AllByRecursion P xs → AllByRecursion P (closed xs i)
  all_closed P zero [] h = tt
  all_closed P (suc i) [] h = tt
  all_closed P zero (x ∷ xs) h = h.1
  all_closed P (suc i) (x ∷ xs) h = (h.0, all_closed P i xs h.1)

  rises_closed : (i : ℕ) (xs : List R) → Rising key xs → Rising key (closed xs i)
  rises_closed zero [] h = tt
  rises_closed (suc i) [] h = tt
  rises_closed zero (x ∷ xs) h = h.1
  rises_closed (suc i) (x ∷ xs) h = (all_closed _ i xs h.0, rises_closed i xs h.1)

  pub rising_closed : (i : ℕ) (xs ys : List R) → ys ≡ closed xs i → ∥ Rising key xs ∥₁ → ∥ Rising key ys ∥₁
  rising_closed i xs ys after h = ∥∥₁_map h (λ rising. subst (Rising key) (sym after) (rises_closed i xs rising))

  -- Any record may come in for one of its number.
  all_set : (P : R → Type 0) (i : ℕ) (r : R) (xs : List R) → P r → AllByRecursion P xs → AllByRecursion P (set xs i r)
  all_set P i r [] new h = tt
  all_set P zero r (x ∷ xs) new h = (new, h.1)
  all_set P (suc i) r (x ∷ xs) new h = (h.0, all_set P i r xs new h.1)

  rises_set : (i : ℕ) (r : R) (xs : List R) → i < length xs → key r ≡ key (get_or xs i r) → Rising key xs → Rising key (set xs i r)
  rises_set i r [] lt same h = absurd (omega arith)
  rises_set zero r (x ∷ xs) lt same h = (subst (λ k. Above key k xs) (sym same) h.0, h.1)
  rises_set (suc i) r (x ∷ xs) lt same h = (all_set _ i r xs (omega (arith, same, All-from_recursion (λ y. key x < key y) xs h.0 i r (omega arith))) h.0, rises_set i r xs (omega arith) same h.1)

  pub rising_set : (i : ℕ) (r : R) (xs ys : List R) → ys ≡ set xs i r → i < length xs → key r ≡ key (get_or xs i r) → ∥ Rising key xs ∥₁ → ∥ Rising key ys ∥₁
  rising_set i r xs ys after lt same h = ∥∥₁_map h (λ rising. subst (Rising key) (sym after) (rises_set i r xs lt same rising))
