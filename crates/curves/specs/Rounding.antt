-- Rounding by digit (6.1.2.2, 6.1.3.2, 6.3.1.2, 6.3.2.3.1, 6.3.2.3.2).
use Rattle.std.specs.Prelude.{ℕ, ◌+◌, ◌*◌, ◌/◌, ◌%◌, cond, nat_le}

-- The first decimal of x / d, which a whole number drops.
abbrev pub first_decimal : ℕ → ℕ → ℕ
first_decimal x d = 10 * x / d % 10

-- The quotient x / d in whole numbers: a first dropped decimal of 0 to 5 adds nothing, one of 6 to 9 adds one.
abbrev pub by_digit : ℕ → ℕ → ℕ
by_digit x d = x / d + cond (nat_le (first_decimal x d) 5) 0 1
