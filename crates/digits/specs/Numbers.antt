-- Numbers in base 256, the high byte first.
use Rattle.std.specs.Prelude.{ℕ, zero, suc, ◌/◌, ◌%◌, ◌^◌, List, [], ◌∷◌, take, drop}
use Rattle.std.specs.Int.Digits.{number_from_digits}

-- The number that stands in `width` bytes from the place `at` on.
abbrev pub field : ℕ → ℕ → List ℕ → ℕ
field width at bytes = number_from_digits 256 (take width (drop at bytes))

-- The last `width` bytes of a number.
abbrev pub bytes_be : ℕ → ℕ → List ℕ
bytes_be zero n = []
bytes_be (suc width) n = (n / 256 ^ width % 256) ∷ bytes_be width n
