-- What is written reads back.
use Rattle.std.specs.Prelude.{◌≡◌, ℕ, ◌^◌, ◌<◌, ◌≤◌, List, [], ◌∷◌, ◌++◌, length, ℤ, Ok, codes, FitsSigned}
use Rattle.std.specs.Int.{cast_signed, cast_unsigned, w32}
use Rattle.std.specs.Int.Digits.{number_from_digits, AllBelowBase}
use Rattle.digits.specs.Hex.{digits, bytes_of, reading}
use Rattle.digits.specs.Numbers.{field, bytes_be}

-- The digits are the sixteen of lowercase notation, in their order.
abbrev pub Sixteen : Type 0
Sixteen = digits (0x01 ∷ 0x23 ∷ 0x45 ∷ 0x67 ∷ 0x89 ∷ 0xab ∷ 0xcd ∷ 0xef ∷ []) ≡ codes "0123456789abcdef"

-- What bytes are written as is accepted, and read as those bytes.
abbrev pub ReadBack : Type 0
ReadBack = (bytes : List ℕ) (room : ℕ) → AllBelowBase 256 bytes → length bytes ≤ room → (reading (digits bytes) room ≡ Ok (length bytes)) × (bytes_of (digits bytes) ≡ bytes)

-- A line that is accepted is what its bytes are written as.
abbrev pub WrittenBack : Type 0
WrittenBack = (line : List ℕ) (room n : ℕ) → reading line room ≡ Ok n → digits (bytes_of line) ≡ line

-- A number that its width holds is read from where it was written.
abbrev pub FieldBack : Type 0
FieldBack = (before after : List ℕ) (width n : ℕ) → n < 256 ^ width → field width (length before) (before ++ (bytes_be width n ++ after)) ≡ n

-- A signed number of four bytes keeps its sign.
abbrev pub SignedBack : Type 0
SignedBack = (before after : List ℕ) (z : ℤ) → FitsSigned w32 z → cast_signed w32 (field 4 (length before) (before ++ (bytes_be 4 (cast_unsigned w32 z) ++ after))) ≡ z

-- Bytes are those of the number that they write.
abbrev pub BytesBack : Type 0
BytesBack = (bytes : List ℕ) → AllBelowBase 256 bytes → bytes_be (length bytes) (number_from_digits 256 bytes) ≡ bytes
