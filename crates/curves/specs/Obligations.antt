-- Steps of a series and obligations: powers in kW, gradients in kW per degree, temperatures in hundredths of a degree,
-- coefficients in thousandths. A gradient of profiled sites counts per degree colder.
use Rattle.std.specs.Prelude.{ℕ, ◌+◌, ◌-◌, ◌*◌, ◌/◌, Bool, List, [], ◌∷◌, ◌++◌, ℤ, pos, negsuc, ◌+ℤ◌, ◌-ℤ◌, ◌*ℤ◌, Result, ◌==◌, nat_le, slice_index_or, unsigned_abs}
use Rattle.curves.specs.declared.ranges.OutOfRange.{OutOfRange}
use Rattle.curves.specs.declared.obligations.Sort.{Sort}
use Rattle.curves.specs.declared.obligations.Sort.TheVariants.{Profiled, Losses}
use Rattle.curves.specs.declared.obligations.Step.{Step}
use Rattle.curves.specs.Ranges.{within, judged}
use Rattle.curves.specs.Rounding.{by_digit}

-- The sorts in the order of their numbers, which begin at 1 (the book's own).
abbrev pub sorts : List Sort
sorts = Profiled ∷ Losses ∷ []

-- The sort of a number from 1 to 2.
abbrev pub sort_at : ℕ → Sort
sort_at number = slice_index_or sorts (number - 1) Profiled

-- The sort of any number: refused unless it is 1 or 2.
abbrev pub sort_numbered : ℕ → Result Sort OutOfRange
sort_numbered number = judged 1 (within 1 2 number ∷ []) (sort_at number)

-- What a step of profiled sites adds (5.2.1.4.1).
abbrev pub profiled : Step → ℤ
profiled s = pos (100000 * (s.metered + s.shed)) +ℤ s.gradient *ℤ pos s.coefficient *ℤ (s.real -ℤ s.extreme)

-- What a step of losses adds (5.2.1.5.1).
abbrev pub losses : Step → ℤ
losses s = pos (100000 * s.metered) +ℤ s.gradient *ℤ pos 1000 *ℤ (s.extreme -ℤ s.real)

-- What a step adds by a sort.
abbrev pub added_as : Sort → Step → ℤ
added_as Profiled s = profiled s
added_as Losses s = losses s

-- What a step adds by its own sort.
abbrev pub step_adds : Step → ℤ
step_adds s = added_as (sort_at s.sort) s

-- The sum over a list of steps, each by its sort.
abbrev pub sum_of_steps : List Step → ℤ
sum_of_steps [] = pos 0
sum_of_steps (s ∷ steps) = step_adds s +ℤ sum_of_steps steps

-- What a series has added: the sum over its steps.
abbrev pub total_added : List Step → ℤ
total_added steps = sum_of_steps steps

-- Profiled sites shed up to 99,999,999 kW; losses shed nothing (the book's own; losses have no such term in 5.2.1.5.1).
abbrev pub shed_fine : Sort → ℕ → Bool
shed_fine Profiled shed = nat_le shed 99999999
shed_fine Losses shed = shed == 0

-- Profiled sites have a coefficient up to 9.999; that of losses is 1.000 (the book's own; losses have none in 5.2.1.5.1).
abbrev pub coefficient_fine : Sort → ℕ → Bool
coefficient_fine Profiled coefficient = nat_le coefficient 9999
coefficient_fine Losses coefficient = coefficient == 1000

-- The ranges of a step's fields after the sort, in their order (the book's own).
abbrev pub readings_fine : Sort → Step → List Bool
readings_fine sort s =
    nat_le s.metered 99999999 ∷
    shed_fine sort s.shed ∷
    nat_le (unsigned_abs s.gradient) 9999999 ∷
    coefficient_fine sort s.coefficient ∷
    nat_le (unsigned_abs s.real) 5000 ∷
    nat_le (unsigned_abs s.extreme) 5000 ∷
    []

-- The fields after the sort judged as the fields 2 to 7.
abbrev pub readings_judged : Sort → Step → Result (Unit {0}) OutOfRange
readings_judged sort s = judged 2 (readings_fine sort s) tt

-- The ranges of all of a step's fields, in their order.
abbrev pub step_fine : Step → List Bool
step_fine s = within 1 2 s.sort ∷ readings_fine (sort_at s.sort) s

-- A step alone.
abbrev pub added_by : Step → Result ℤ OutOfRange
added_by s = judged 1 (step_fine s) (step_adds s)

-- No step in range adds more than this, either way.
abbrev pub most_added : ℕ
most_added = 1100000000000000

-- A negative sum counts as zero (5.2.4).
abbrev pub not_negative : ℤ → ℕ
not_negative (pos n) = n
not_negative (negsuc n) = 0

-- The reference power of n half-hours, in kW, rounded down (5.2.1.2, 5.2.4; the rounding is the book's own).
abbrev pub reference_power : ℕ → ℤ → ℕ
reference_power n sum = not_negative sum / (100000 * n)

-- The obligation: reference power times security coefficient (5.2.1.2, 5.1.4.3), rounded by digit to guarantees (the book's own).
unfoldable pub obligation_in_guarantees : ℕ → ℕ → ℤ → ℕ
obligation_in_guarantees n security sum = by_digit (reference_power n sum * security) 100000

-- The ranges of a year's terms, in their order (the book's own).
abbrev pub terms_fine : ℕ → ℕ → List Bool
terms_fine n security = within 1 400 n ∷ nat_le security 2000 ∷ []

-- A year's terms judged as the fields 1 and 2.
abbrev pub terms_judged : ℕ → ℕ → Result (ℕ × ℕ) OutOfRange
terms_judged n security = judged 1 (terms_fine n security) (n, security)

-- The ranges of an obligation's fields, in their order: the year's terms, then the sum (the book's own).
abbrev pub year_fine : ℕ → ℕ → ℤ → List Bool
year_fine n security sum = terms_fine n security ++ nat_le (unsigned_abs sum) 1000000000000000000 ∷ []

-- An obligation alone.
abbrev pub obligation_of : ℕ → ℕ → ℤ → Result ℕ OutOfRange
obligation_of n security sum = judged 1 (year_fine n security sum) (obligation_in_guarantees n security sum)
