-- No coefficient is above 100 percent, so a level is never above 1,000,000.
use Rattle.std.proofs.Common.{ℕ, zero, suc, ◌+◌, ◌-◌, ◌*◌, ◌/◌, ◌%◌, ◌≤◌, List, [], ◌∷◌, get_or, arith}
use Rattle.std.proofs.lemmas.Nat.{mul-le}
use Rattle.std.specs.List.{AllByRecursion}
use Rattle.curves.specs.declared.levels.Method.{Method}
use Rattle.curves.specs.declared.levels.Method.TheVariants.{Dispatchable, Hydraulic, Wind, Solar}
use Rattle.curves.specs.declared.levels.Supply.{Supply}
use Rattle.curves.specs.Rounding.{by_digit}
use Rattle.curves.specs.Coefficients.{half_hours_of, kh_after, kh_of, kh_table, kj_of, kj_table, tenths_of_days}
use Rattle.curves.specs.Levels.{guarantees, shares}
use Rattle.curves.proofs.Decimals.{at_most, by_tenths}

get_or_most : (m : ℕ) (xs : List ℕ) (i : ℕ) → AllByRecursion (λ x. x ≤ m) xs → get_or xs i 0 ≤ m
get_or_most m [] i h = omega arith
get_or_most m (x ∷ xs) zero h = h.0
get_or_most m (x ∷ xs) (suc i) h = get_or_most m xs i h.1

pub kj_most : (hours : ℕ) → kj_of hours ≤ 100
kj_most hours = get_or_most 100 kj_table (half_hours_of hours) (omega arith)

on_the_line : (u v t : ℕ) → u ≤ 100 → v ≤ 100 → t ≤ 10 → u * (10 - t) + v * t ≤ 1000
on_the_line u v t a b c = omega (arith, mul-le u (10 - t) 100 (10 - t) a (omega arith), mul-le v t 100 t b (omega arith))

tenth_most : (x : ℕ) → x ≤ 1000 → by_digit x 10 ≤ 100
tenth_most x h = omega (arith, by_tenths x 10 (omega arith))

pub kh_most : (days : ℕ) → kh_of days ≤ 100
kh_most days = after (tenths_of_days days / 10) (tenths_of_days days % 10) (omega arith)
  where
    after : (day t : ℕ) → t ≤ 10 → kh_after day t ≤ 100
    after day t h =
        tenth_most (get_or kh_table day 0 * (10 - t) + get_or kh_table (day + 1) 0 * t)
        (on_the_line (get_or kh_table day 0) (get_or kh_table (day + 1) 0) t (get_or_most 100 kh_table day (omega arith)) (get_or_most 100 kh_table (day + 1) (omega arith)) h)

pub shares_most : (method : Method) (supply : Supply) → shares method supply ≤ 10000
shares_most Dispatchable supply = mul-le (kj_of supply.hours) (kh_of supply.days) 100 100 (kj_most supply.hours) (kh_most supply.days)
shares_most Hydraulic supply = omega arith
shares_most Wind supply = omega arith
shares_most Solar supply = omega arith

pub counted_most : (method : Method) (supply : Supply) (most : ℕ) → supply.power ≤ most → supply.power * shares method supply ≤ most * 10000
counted_most method supply most h = mul-le supply.power (shares method supply) most 10000 h (shares_most method supply)

pub guarantees_most : (method : Method) (supply : Supply) → supply.power ≤ 99999999 → guarantees method supply ≤ 1000000
unfolding guarantees
guarantees_most method supply h =
    omega (arith, at_most (supply.power * shares method supply) 1000000, counted_most method supply 99999999 h)
