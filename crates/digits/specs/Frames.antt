-- What stands in a frame.
use Rattle.std.specs.Prelude.{ℕ, cond, List, [], ◌∷◌, ◌++◌, length, nat_le}
use Rattle.std.specs.Int.{cast_unsigned, w32, w64}
use Rattle.digits.specs.Numbers.{bytes_be}
use Rattle.digits.specs.declared.frame.Field.{Field}
use Rattle.digits.specs.declared.frame.Field.TheVariants.{Byte, Two, Four, Eight, SignedFour, SignedEight}

-- The bytes of a field, the high one first; a signed one in two's complement.
abbrev pub field_bytes : Field → List ℕ
field_bytes (Byte n) = n ∷ []
field_bytes (Two n) = bytes_be 2 n
field_bytes (Four n) = bytes_be 4 n
field_bytes (Eight n) = bytes_be 8 n
field_bytes (SignedFour n) = bytes_be 4 (cast_unsigned w32 n)
field_bytes (SignedEight n) = bytes_be 8 (cast_unsigned w64 n)

-- The bytes of fields, one after another.
abbrev pub composed : List Field → List ℕ
composed [] = []
composed (f ∷ fs) = field_bytes f ++ composed fs

-- Bytes that a frame has room for; none where it has not.
abbrev pub fitting : List ℕ → List ℕ
fitting bytes = cond (nat_le (length bytes) 30) bytes []
