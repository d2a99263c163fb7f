-- Fields that are all in range, and the walk over them.
use Rattle.std.proofs.Common.{◌≡◌, ℕ, ◌+◌, Bool, true, false, List, [], ◌∷◌, Ok, Err, refl, ap, arith}
use Rattle.curves.specs.declared.ranges.OutOfRange.{OutOfRange}
use Rattle.curves.specs.Ranges.{judged}

-- every field is fine
abbrev pub AllFine : List Bool → Type 0
AllFine [] = Unit {0}
AllFine (fine ∷ others) = (fine ≡ true) × AllFine others

pub fine_if_accepted : {X : Type 0} (place : ℕ) (checks : List Bool) (value x : X) → judged place checks value ≡ Ok x → AllFine checks
fine_if_accepted place [] value x e = tt
fine_if_accepted place (true ∷ others) value x e = (refl, fine_if_accepted (place + 1) others value x e)
fine_if_accepted place (false ∷ others) value x e = absurd (let z : ◌≡◌ {A = ℕ} 0 1 = cc in omega arith)

pub accepted_if_fine : {X : Type 0} (place : ℕ) (checks : List Bool) (value : X) → AllFine checks → judged place checks value ≡ Ok value
accepted_if_fine place [] value h = refl
accepted_if_fine place (true ∷ others) value h = accepted_if_fine (place + 1) others value h.1
accepted_if_fine place (false ∷ others) value h = absurd (let e = h.0 in let z : ◌≡◌ {A = ℕ} 0 1 = cc in omega arith)

-- a refusal does not depend on the value
pub refused_alike : {X Y : Type 0} (place : ℕ) (checks : List Bool) (x : X) (y : Y) (e : OutOfRange) → judged place checks x ≡ Err e → judged place checks y ≡ Err e
refused_alike place [] x y e h = absurd (let z : ◌≡◌ {A = ℕ} 0 1 = cc in omega arith)
refused_alike place (true ∷ others) x y e h = refused_alike (place + 1) others x y e h
refused_alike place (false ∷ others) x y e h = let same : ◌≡◌ {A = OutOfRange} (record { field = place }) e = cc in ap Err same
