-- What a sheet and a paying sheet stand for, and how their calls answer.
use Rattle.std.specs.Prelude.{◌≡◌, ℕ, ◌+◌, ◌-◌, cond, List, [], ◌∷◌, ◌++◌, length, ℤ, Some, None, Option, Result, nat_le, nat_lt}
use Rattle.settlement.specs.declared.fault.SheetFault.{SheetFault}
use Rattle.settlement.specs.declared.fault.SheetFault.TheVariants.{PriceOutOfRange, GapOutOfRange, Full, NotLeft}
use Rattle.settlement.specs.declared.sheet.Sheet.{Sheet}
use Rattle.settlement.specs.declared.sheet.PayingSheet.{PayingSheet}
use Rattle.settlement.specs.Rules.{highest_price, most_gaps, gap_fine, surplus, paid_price_of, amount}
use Rattle.settlement.specs.Tallies.{Tally, Due}
use Rattle.settlement.specs.Faults.{answered, left_by}

-- A sheet at two prices, with these gaps entered.
pub record Holds (sheet : Sheet) (shortage_price surplus_price : ℕ) (gaps : List ℤ) : Type 0 where
  pub at_shortage_price : sheet.prices.shortage ≡ shortage_price
  pub at_surplus_price : sheet.prices.surplus ≡ surplus_price
  pub tally : Tally sheet.totals.shortage sheet.totals.surplus sheet.totals.count gaps

-- A paying sheet at two prices, of these gaps.
pub record Settles (sheet : PayingSheet) (shortage_price surplus_price : ℕ) (gaps : List ℤ) : Type 0 where
  pub at_shortage_price : sheet.settled_at.shortage ≡ shortage_price
  pub due : Due shortage_price sheet.settled_at.surplus sheet.total_surplus sheet.collected surplus_price gaps

-- The same, with so much surplus not yet paid.
pub record Pays (sheet : PayingSheet) (shortage_price surplus_price : ℕ) (gaps : List ℤ) (left : ℕ) : Type 0 where
  pub settles : Settles sheet shortage_price surplus_price gaps
  pub is_left : sheet.unpaid ≡ left

-- Why a sheet is not started: the first price out of range.
abbrev pub price_fault : ℕ → ℕ → Option SheetFault
price_fault shortage_price surplus_price =
    cond (nat_le shortage_price highest_price)
    (cond (nat_le surplus_price highest_price) None (Some (PriceOutOfRange 2)))
    (Some (PriceOutOfRange 1))

-- Why a gap is not entered after so many others: its range, then the sheet's room.
abbrev pub gap_fault : ℕ → ℤ → Option SheetFault
gap_fault count gap = cond (gap_fine gap) (cond (nat_lt count most_gaps) None (Some Full)) (Some GapOutOfRange)

-- Entering answers the count of gaps so far.
abbrev pub entering : List ℤ → ℤ → Result ℕ SheetFault
entering gaps gap = answered (gap_fault (length gaps) gap) (length gaps + 1)

-- The gaps after entering one more.
abbrev pub entered : List ℤ → ℤ → List ℤ
entered gaps gap = left_by (gap_fault (length gaps) gap) (gaps ++ gap ∷ []) gaps

-- Why a gap is not paid: its range, then the surplus not yet paid.
abbrev pub pay_fault : ℕ → ℤ → Option SheetFault
pay_fault left gap = cond (gap_fine gap) (cond (nat_le (surplus gap) left) None (Some NotLeft)) (Some GapOutOfRange)

-- Paying answers the amount.
abbrev pub paying : ℕ → ℕ → List ℤ → ℕ → ℤ → Result ℤ SheetFault
paying shortage_price surplus_price gaps left gap =
    answered (pay_fault left gap) (amount shortage_price (paid_price_of shortage_price surplus_price gaps) gap)

-- The surplus not yet paid after paying a gap.
abbrev pub left_after : ℕ → ℤ → ℕ
left_after left gap = left_by (pay_fault left gap) (left - surplus gap) left
