-- A whole settlement: gaps entered in turn, then each paid in turn.
use Rattle.std.specs.Prelude.{ℕ, ◌+◌, List, [], ◌∷◌, ℤ, None, Option, Result}
use Rattle.std.specs.Option.{option_or}
use Rattle.settlement.specs.declared.fault.SheetFault.{SheetFault}
use Rattle.settlement.specs.declared.Settlement.{Settlement}
use Rattle.settlement.specs.Rules.{collected, paid_price_of, paid, balance, amounts}
use Rattle.settlement.specs.Faults.{answered, left_by}
use Rattle.settlement.specs.Sheets.{price_fault, gap_fault}

-- The first fault of gaps that are entered after so many others.
abbrev pub gaps_fault : ℕ → List ℤ → Option SheetFault
gaps_fault count [] = None
gaps_fault count (gap ∷ gaps) = option_or (gap_fault count gap) (gaps_fault (count + 1) gaps)

-- The first fault of prices and gaps.
abbrev pub settle_fault : ℕ → ℕ → List ℤ → Option SheetFault
settle_fault shortage_price surplus_price gaps = option_or (price_fault shortage_price surplus_price) (gaps_fault 0 gaps)

-- The figures of a settlement.
abbrev pub figures : ℕ → ℕ → List ℤ → Settlement
figures shortage_price surplus_price gaps =
    record {
      paid_price = paid_price_of shortage_price surplus_price gaps;
      collected = collected shortage_price gaps;
      paid = paid shortage_price surplus_price gaps;
      balance = balance shortage_price surplus_price gaps;
    }

-- Settling answers the figures.
abbrev pub settling : ℕ → ℕ → List ℤ → Result Settlement SheetFault
settling shortage_price surplus_price gaps =
    answered (settle_fault shortage_price surplus_price gaps) (figures shortage_price surplus_price gaps)

-- Settling leaves the amounts in place of the gaps.
abbrev pub settled : ℕ → ℕ → List ℤ → List ℤ
settled shortage_price surplus_price gaps =
    left_by (settle_fault shortage_price surplus_price gaps) (amounts shortage_price surplus_price gaps) gaps
