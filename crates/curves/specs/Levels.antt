-- Certified levels: powers in kW, hours in tenths, days in hundredths, levels in guarantees of 100 kW.
use Rattle.std.specs.Prelude.{ℕ, ◌-◌, ◌*◌, Bool, List, [], ◌∷◌, Result, nat_le, slice_index_or}
use Rattle.curves.specs.declared.ranges.OutOfRange.{OutOfRange}
use Rattle.curves.specs.declared.levels.Method.{Method}
use Rattle.curves.specs.declared.levels.Method.TheVariants.{Dispatchable, Hydraulic, Wind, Solar}
use Rattle.curves.specs.declared.levels.Supply.{Supply}
use Rattle.curves.specs.Ranges.{within, judged}
use Rattle.curves.specs.Rounding.{by_digit}
use Rattle.curves.specs.Coefficients.{kj_of, kh_of}

-- The methods in the order of their numbers, which begin at 1 (the book's own).
abbrev pub methods : List Method
methods = Dispatchable ∷ Hydraulic ∷ Wind ∷ Solar ∷ []

-- The method of a number from 1 to 4.
abbrev pub method_at : ℕ → Method
method_at number = slice_index_or methods (number - 1) Dispatchable

-- The method of any number: refused unless it is from 1 to 4.
abbrev pub method_numbered : ℕ → Result Method OutOfRange
method_numbered number = judged 1 (within 1 4 number ∷ []) (method_at number)

-- What a method counts of a power, in hundredths of a percent: Kj times Kh (6.3.1.2.2), or a percentage of its own (6.1.5.2).
abbrev pub shares : Method → Supply → ℕ
shares Dispatchable supply = kj_of supply.hours * kh_of supply.days
shares Hydraulic supply = 85 * 100
shares Wind supply = 70 * 100
shares Solar supply = 25 * 100

-- The certified level: power times shares, rounded by digit to whole guarantees (6.3.1.2, 6.3.2.3.1, 6.3.2.3.2, 6.3.2.4).
unfoldable pub guarantees : Method → Supply → ℕ
guarantees method supply = by_digit (supply.power * shares method supply) 1000000

-- Power to 99,999,999 kW, hours to 24.0 and days to 7.00, for every method (the book's own).
abbrev pub supply_fine : Supply → List Bool
supply_fine supply = nat_le supply.power 99999999 ∷ nat_le supply.hours 240 ∷ nat_le supply.days 700 ∷ []

-- Power, hours and days judged as the fields 2, 3 and 4.
abbrev pub supply_judged : Supply → Result (Unit {0}) OutOfRange
supply_judged supply = judged 2 (supply_fine supply) tt

-- The level alone, of a method's number and a supply.
abbrev pub level_of : ℕ → Supply → Result ℕ OutOfRange
level_of number supply = judged 1 (within 1 4 number ∷ supply_fine supply) (guarantees (method_at number) supply)
