-- The first decimal of a quotient, worked out from the remainder.
use Rattle.std.proofs.Common.{◌≡◌, ℕ, ◌+◌, ◌*◌, ◌/◌, ◌%◌, ◌<◌, ◌≤◌, leb, ap, ◌∙◌, mul_left_comm, arith}
use native.Mathlib.Nat.{div-add-mod, mul-add-div}
use Rattle.std.proofs.lemmas.Nat.{div_below, mod_below}
use Rattle.curves.specs.Rounding.{first_decimal, by_digit}
use Rattle.std.proofs.lemmas.Bool.{cond_both, leb-true, leb-false}

pub below_ten : (x d : ℕ) → 0 < d → 10 * (x % d) / d < 10
below_ten x d h = div_below (10 * (x % d)) d 10 h (omega (arith, mod_below x d h))

tenfold : (x d : ℕ) → 10 * x ≡ d * (10 * (x / d)) + 10 * (x % d)
tenfold x d = omega (arith, div-add-mod x d, mul_left_comm d 10 (x / d))

pub tenths_are : (x d : ℕ) → 0 < d → 10 * x / d ≡ 10 * (x / d) + 10 * (x % d) / d
tenths_are x d h = ap (λ (n : ℕ). n / d) (tenfold x d) ∙ mul-add-div h (10 * (x / d)) (10 * (x % d))

pub decimal : (x d : ℕ) → 0 < d → 10 * (x % d) / d ≡ first_decimal x d
decimal x d h = omega (arith, tenths_are x d h, below_ten x d h)

-- the rule as one quotient, in tenths
pub by_tenths : (x d : ℕ) → 0 < d → by_digit x d ≡ (10 * x / d + 4) / 10
by_tenths x d h =
    cond_both (leb (first_decimal x d) 5) 0 1 (λ (more : ℕ). x / d + more ≡ (10 * x / d + 4) / 10)
    (λ few. omega (arith, tenths_are x d h, below_ten x d h, leb-true (first_decimal x d) 5 few))
    (λ many. omega (arith, tenths_are x d h, below_ten x d h, leb-false (first_decimal x d) 5 many))

pub at_most : (x d : ℕ) → by_digit x d ≤ x / d + 1
at_most x d =
    cond_both (leb (first_decimal x d) 5) 0 1 (λ (more : ℕ). x / d + more ≤ x / d + 1) (λ few. omega arith) (λ many. omega arith)
