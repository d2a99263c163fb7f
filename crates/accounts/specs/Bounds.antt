-- What the records of accounts keep, so that no sum overflows.
use Rattle.std.specs.Prelude.{ℕ, ◌*◌, ◌≤◌, List, unsigned_abs}
use Rattle.std.specs.List.{AllByRecursion}
use Rattle.curves.specs.Obligations.{most_added}
use Rattle.registers.specs.Rows.{Numbered}
use Rattle.rules.specs.declared.records.Series.{Series}
use Rattle.rules.specs.declared.records.Account.{Account}
use Rattle.rules.specs.Records.{account_number}

-- At most n steps, none of which adds more than a step can.
abbrev pub Bounded : ℕ → Series → Type 0
Bounded n s = (s.loaded ≤ n) × (unsigned_abs s.sum ≤ s.loaded * most_added)

-- An account of a year of n half-hours: its number is from 1 to 64, and its series are bounded.
abbrev pub Sound : ℕ → Account → Type 0
Sound n a = (1 ≤ a.number) × (a.number ≤ 64) × Bounded n a.profiled × Bounded n a.losses

-- Accounts of a year of n half-hours: numbers from 1 to 64, rising, with bounded series.
abbrev pub Kept : ℕ → List Account → Type 0
Kept n accounts = Numbered account_number 64 accounts × AllByRecursion (λ a. Bounded n a.profiled × Bounded n a.losses) accounts
