-- The lists of gaps that stand behind the figures of a sheet.
use Rattle.std.specs.Prelude.{◌≡◌, ℕ, true, List, length, ℤ}
use Rattle.std.specs.List.{AllByRecursion}
use Rattle.settlement.specs.Rules.{gap_fine, total_shortage, total_surplus_of, collected, paid_price_of}

-- A gap is fine.
abbrev pub Fine : ℤ → Type 0
Fine gap = gap_fine gap ≡ true

-- Each gap of a list is fine.
abbrev pub AllFine : List ℤ → Type 0
AllFine gaps = AllByRecursion Fine gaps

-- Two totals and a count are those of a list of fine gaps.
pub record Tally (shortages surpluses count : ℕ) (gaps : List ℤ) : Type 0 where
  pub fine : AllFine gaps
  pub is_shortage : shortages ≡ total_shortage gaps
  pub is_surplus : surpluses ≡ total_surplus_of gaps
  pub is_count : count ≡ length gaps

-- Some list of fine gaps has these totals and this count.
abbrev pub Tallied : ℕ → ℕ → ℕ → Type 0
Tallied shortages surpluses count = ∥ ((gaps : List ℤ) × Tally shortages surpluses count gaps) ∥₁

-- A price, a surplus and money are the paid price, the total surplus and what is collected of a list of fine gaps.
pub record Due (shortage_price price surpluses money surplus_price : ℕ) (gaps : List ℤ) : Type 0 where
  pub fine : AllFine gaps
  pub is_price : price ≡ paid_price_of shortage_price surplus_price gaps
  pub is_surplus : surpluses ≡ total_surplus_of gaps
  pub is_collected : money ≡ collected shortage_price gaps

-- They are those of some list at some quoted surplus price.
abbrev pub Ended : ℕ → ℕ → ℕ → ℕ → Type 0
Ended shortage_price price surpluses money =
    ∥ ((surplus_price : ℕ) × (gaps : List ℤ) × Due shortage_price price surpluses money surplus_price gaps) ∥₁
