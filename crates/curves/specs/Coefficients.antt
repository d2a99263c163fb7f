-- The coefficients Kj and Kh of a supply that is limited in its hours and days, in percent.
use Rattle.std.specs.Prelude.{ℕ, ◌+◌, ◌-◌, ◌*◌, ◌/◌, ◌%◌, min, List, [], ◌∷◌, slice_index}
use Rattle.curves.specs.Rounding.{by_digit}

-- Kj for 0 to 20 half-hours (6.1.2.2).
abbrev pub kj_table : List ℕ
kj_table =
    0 ∷ 13 ∷ 25 ∷ 35 ∷ 46 ∷ 53 ∷ 59 ∷ 65 ∷ 70 ∷ 74 ∷ 78 ∷ 82 ∷ 85 ∷ 88 ∷ 91 ∷ 93 ∷ 95 ∷ 96 ∷ 98 ∷ 99 ∷ 100 ∷ []

-- Hours, in tenths, rounded by digit to half-hours; above 20 counts as 20 (6.3.1.2.2.1.2).
abbrev pub half_hours_of : ℕ → ℕ
half_hours_of hours = min (by_digit hours 5) 20

-- Kj of hours in tenths (6.1.2.2).
abbrev pub kj_of : ℕ → ℕ
kj_of hours = slice_index kj_table (half_hours_of hours)

-- Kh for 0 to 5 whole days (6.1.3.2).
abbrev pub kh_table : List ℕ
kh_table = 0 ∷ 45 ∷ 73 ∷ 88 ∷ 94 ∷ 100 ∷ []

-- Days, in hundredths, rounded by digit to tenths; above 5.0 counts as 5.0 (6.1.3.2, 6.3.1.2.2.2).
abbrev pub tenths_of_days : ℕ → ℕ
tenths_of_days days = min (by_digit days 10) 50

-- Kh some tenths after a whole day: on the straight line to the next day, rounded by digit to a percent (6.1.3.2).
abbrev pub kh_after : ℕ → ℕ → ℕ
kh_after day tenths = by_digit (slice_index kh_table day * (10 - tenths) + slice_index kh_table (day + 1) * tenths) 10

-- Kh of days in hundredths (6.1.3.2).
abbrev pub kh_of : ℕ → ℕ
kh_of days = kh_after (tenths_of_days days / 10) (tenths_of_days days % 10)
