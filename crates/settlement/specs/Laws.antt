-- What holds of every settlement.
use Rattle.std.specs.Prelude.{◌≡◌, ℕ, ◌+◌, ◌≤◌, List, [], ◌∷◌, map, ℤ, pos, ◌+ℤ◌, Ok, Err, sum_by, Result}
use Rattle.std.specs.List.{ContainsAt}
use Rattle.std.specs.List.Sorted.{IsPermutation}
use Rattle.settlement.specs.declared.fault.SheetFault.{SheetFault}
use Rattle.settlement.specs.Rules.{surplus, total_surplus_of, collected, paid_price_of, paid, balance, amount, amounts, total_amount, Fair}
use Rattle.settlement.specs.Tallies.{AllFine}
use Rattle.settlement.specs.Sheets.{paying, left_after}

-- The answers to gaps that are asked to be paid in turn, from so much surplus left.
abbrev pub pay_answers : ℕ → ℕ → List ℤ → ℕ → List ℤ → List (Result ℤ SheetFault)
pay_answers shortage_price surplus_price gaps left [] = []
pay_answers shortage_price surplus_price gaps left (gap ∷ asked) =
    paying shortage_price surplus_price gaps left gap ∷ pay_answers shortage_price surplus_price gaps (left_after left gap) asked

-- The answer that a gap is due.
abbrev pub due_answer : ℕ → ℕ → List ℤ → ℤ → Result ℤ SheetFault
due_answer shortage_price surplus_price gaps gap = Ok (amount shortage_price (paid_price_of shortage_price surplus_price gaps) gap)

-- What an answer pays out: an amount above 0.
abbrev pub received : Result ℤ SheetFault → ℕ
received (Ok sum) = surplus sum
received (Err fault) = 0

-- What holds at two prices of a list of gaps.
pub record Lawful (shortage_price surplus_price : ℕ) (gaps : List ℤ) : Type 0 where
  -- The paid price is fair, and no other is.
  pub fair : Fair shortage_price surplus_price gaps (paid_price_of shortage_price surplus_price gaps)
  pub only : (price : ℕ) → Fair shortage_price surplus_price gaps price → price ≡ paid_price_of shortage_price surplus_price gaps
  -- What is collected is paid or stays as the balance.
  pub whole : paid shortage_price surplus_price gaps + balance shortage_price surplus_price gaps ≡ collected shortage_price gaps
  -- The amounts of all gaps add up to what is paid less what is collected.
  pub even :
      total_amount (amounts shortage_price surplus_price gaps) +ℤ pos (collected shortage_price gaps) ≡ pos (paid shortage_price surplus_price gaps)
  -- Any gap that was entered is paid its amount from a fresh paying sheet.
  pub each_paid :
      AllFine gaps
      → (gap : ℤ) → ContainsAt gaps gap
      → paying shortage_price surplus_price gaps (total_surplus_of gaps) gap ≡ due_answer shortage_price surplus_price gaps gap
  -- All gaps that were entered are paid their amounts one after another, in any order.
  pub all_paid :
      AllFine gaps
      → (order : List ℤ) → IsPermutation gaps order
      → pay_answers shortage_price surplus_price gaps (total_surplus_of gaps) order ≡ map (due_answer shortage_price surplus_price gaps) order
  -- Whatever gaps are asked to be paid, the answers pay out no more than is collected (5.6.2.2).
  pub never_more :
      (asked : List ℤ)
      → sum_by received (pay_answers shortage_price surplus_price gaps (total_surplus_of gaps) asked) ≤ collected shortage_price gaps

-- Every settlement is lawful.
abbrev pub SettlementIsFair : Type 0
SettlementIsFair = (shortage_price surplus_price : ℕ) (gaps : List ℤ) → Lawful shortage_price surplus_price gaps
