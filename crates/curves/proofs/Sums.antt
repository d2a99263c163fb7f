-- What a step adds, a series' sum and its obligation stay small.
use Rattle.std.proofs.Common.{◌≡◌, ℕ, ◌+◌, ◌*◌, ◌≤◌, List, [], ◌∷◌, ◌++◌, length, ℤ, pos, negsuc, ◌+ℤ◌, ◌-ℤ◌, ◌*ℤ◌, nat_abs, Ok, refl, suc-mul, arith}
use native.Mathlib.Nat.{div-le_of_le-mul}
use Rattle.std.proofs.lemmas.Nat.{mul-le}
use Rattle.std.proofs.lemmas.Int.{ints}
use Rattle.std.proofs.lemmas.Bool.{leb-true}
use Rattle.std.specs.List.{AllByRecursion}
use Rattle.curves.specs.declared.obligations.Sort.{Sort}
use Rattle.curves.specs.declared.obligations.Sort.TheVariants.{Profiled, Losses}
use Rattle.curves.specs.declared.obligations.Step.{Step}
use Rattle.curves.specs.Obligations.{added_as, most_added, not_negative, losses, obligation_in_guarantees, profiled, readings_fine, readings_judged, reference_power, sort_at, step_adds, step_fine, total_added}
use Rattle.curves.proofs.Decimals.{at_most}
use Rattle.curves.proofs.Judging.{AllFine, fine_if_accepted}
use Rattle.curves.proofs.Products.{products_most}

-- a power with what the degrees add to it
raised_most : (power coefficient : ℕ) (gradient from to : ℤ) → power ≤ 2 * 99999999 → nat_abs gradient ≤ 9999999 → coefficient ≤ 9999 → nat_abs from ≤ 5000 → nat_abs to ≤ 5000
    → nat_abs (pos (100000 * power) +ℤ gradient *ℤ pos coefficient *ℤ (to -ℤ from)) ≤ most_added
raised_most power coefficient gradient from to p g c f t =
    let degrees : nat_abs (to -ℤ from) ≤ 10000 = omega (arith, ints) in
    omega (arith, ints, products_most gradient (pos coefficient) (to -ℤ from) 9999999 9999 10000 g c degrees)

added_as_most : (sort : Sort) (s : Step) → AllFine (readings_fine sort s) → nat_abs (added_as sort s) ≤ most_added
added_as_most Profiled s h =
    raised_most (s.metered + s.shed) s.coefficient s.gradient s.extreme s.real
    (omega (arith, leb-true s.metered 99999999 h.0, leb-true s.shed 99999999 h.1.0))
    (leb-true _ _ h.1.1.0) (leb-true _ _ h.1.1.1.0) (leb-true _ _ h.1.1.1.1.1.0) (leb-true _ _ h.1.1.1.1.0)
added_as_most Losses s h =
    raised_most s.metered 1000 s.gradient s.real s.extreme
    (omega (arith, leb-true s.metered 99999999 h.0))
    (leb-true _ _ h.1.1.0) (omega arith) (leb-true _ _ h.1.1.1.1.0) (leb-true _ _ h.1.1.1.1.1.0)

pub profiled_most : (s : Step) → readings_judged Profiled s ≡ Ok tt → nat_abs (profiled s) ≤ most_added
profiled_most s e = added_as_most Profiled s (fine_if_accepted 2 (readings_fine Profiled s) tt tt e)

pub losses_most : (s : Step) → readings_judged Losses s ≡ Ok tt → nat_abs (losses s) ≤ most_added
losses_most s e = added_as_most Losses s (fine_if_accepted 2 (readings_fine Losses s) tt tt e)

pub step_adds_most : (s : Step) → AllFine (step_fine s) → nat_abs (step_adds s) ≤ most_added
step_adds_most s h = added_as_most (sort_at s.sort) s h.1

pub total_added_most : (steps : List Step) → AllByRecursion (λ s. AllFine (step_fine s)) steps → nat_abs (total_added steps) ≤ length steps * most_added
total_added_most [] h = omega arith
total_added_most (s ∷ steps) h =
    omega (arith, ints, step_adds_most s h.0, total_added_most steps h.1, suc-mul (length steps) most_added)

pub total_added_first : (s : Step) (steps : List Step) → total_added (s ∷ steps) ≡ step_adds s +ℤ total_added steps
total_added_first s steps = refl

pub total_added_last : (steps : List Step) (s : Step) → total_added (steps ++ s ∷ []) ≡ total_added steps +ℤ step_adds s
total_added_last [] s = omega (arith, ints)
total_added_last (t ∷ steps) s = omega (arith, ints, total_added_last steps s)

not_negative_most : (sum : ℤ) → not_negative sum ≤ nat_abs sum
not_negative_most (pos n) = omega arith
not_negative_most (negsuc n) = omega arith

-- n half-hours of at most so much each
pub reference_most : (n : ℕ) (sum : ℤ) (most : ℕ) → nat_abs sum ≤ 100000 * n * most → reference_power n sum ≤ most
reference_most n sum most h = div-le_of_le-mul (100000 * n) (omega (arith, not_negative_most sum))

-- of a sum over two series
pub obligation_most : (n security : ℕ) (sum : ℤ) → security ≤ 2000 → nat_abs sum ≤ n * 2200000000000000 → obligation_in_guarantees n security sum ≤ 999999999
unfolding obligation_in_guarantees
obligation_most n security sum s h =
    let power : reference_power n sum ≤ 22000000000 = reference_most n sum 22000000000 (omega arith) in
    omega (arith, mul-le (reference_power n sum) security 22000000000 2000 power s, at_most (reference_power n sum * security) 100000)
