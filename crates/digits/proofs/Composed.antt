-- Fields one after another, as the library joins lists.
use Rattle.std.proofs.Common.{◌≡◌, ℕ, ◌++◌, List, [], ◌∷◌, refl, ap}
use Rattle.std.specs.List.{flat_map}
use Rattle.digits.specs.Frames.{field_bytes, composed}
use Rattle.digits.specs.declared.frame.Field.{Field}

pub composed_is : (fields : List Field) → composed fields ≡ flat_map field_bytes fields
composed_is [] = refl
composed_is (f ∷ fs) = ap (λ (t : List ℕ). field_bytes f ++ t) (composed_is fs)
