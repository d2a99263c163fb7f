-- Every settlement is lawful.
use Rattle.std.proofs.Common.{◌≡◌, ℕ, zero, suc, ◌+◌, ◌-◌, ◌*◌, ◌≤◌, Bool, true, false, cond, leb, List, [], ◌∷◌, map, ℤ, pos, negsuc, ◌+ℤ◌, neg_ℤ, Some, None, fold, sum_by, Result, refl, ap, ◌∙◌, add-mul, arith}
use Rattle.std.proofs.lemmas.Int.{ints}
use Rattle.std.proofs.lemmas.List.Sorted.{sum_by-IsPermutation}
use Rattle.std.proofs.ByRecursion.{all_shuffled}
use Rattle.std.proofs.lemmas.List.Sums.{sum_by-cons}
use Rattle.std.proofs.lemmas.Bool.{leb-true}
use Rattle.settlement.specs.declared.fault.SheetFault.{SheetFault}
use Rattle.settlement.specs.declared.fault.SheetFault.TheVariants.{GapOutOfRange, NotLeft}
use Rattle.settlement.specs.Rules.{gap_fine, shortage, surplus, total_shortage, total_surplus_of, paid_price_of, amount}
use Rattle.settlement.specs.Tallies.{Fine, AllFine}
use Rattle.settlement.specs.Faults.{answered, left_by}
use Rattle.settlement.specs.Sheets.{paying, left_after}
use Rattle.settlement.specs.Laws.{pay_answers, due_answer, received, Lawful}
use Rattle.settlement.proofs.Prices.{paid_price_is_fair, one_fair_price}
use Rattle.settlement.proofs.Payments.{covered_gap_paid, covered_gap_left, entered_gap_paid}

-- what a gap owes and receives is its amount
amount_parts : (p price : ℕ) (gap : ℤ) → amount p price gap +ℤ pos (shortage gap * p) ≡ pos (surplus gap * price)
amount_parts p price (pos n) = omega (arith, ints)
amount_parts p price (negsuc n) = omega (arith, ints)

-- the sum of amounts from any start on
sum_from : (p price : ℕ) (start : ℤ) (gaps : List ℤ) → fold ◌+ℤ◌ start (map (amount p price) gaps) +ℤ pos (total_shortage gaps * p) ≡ start +ℤ pos (total_surplus_of gaps * price)
sum_from p price start [] = omega (arith, ints)
sum_from p price start (gap ∷ gaps) =
    omega (
      arith,
      ints,
      sum_from p price (start +ℤ amount p price gap) gaps,
      amount_parts p price gap,
      ap (λ (n : ℕ). n * p) (sum_by-cons shortage gap gaps),
      add-mul (shortage gap) (total_shortage gaps) p,
      ap (λ (n : ℕ). n * price) (sum_by-cons surplus gap gaps),
      add-mul (surplus gap) (total_surplus_of gaps) price,
    )

-- gaps asked for, within the surplus left, are all paid
paid_within : (p q : ℕ) (gaps : List ℤ) (left : ℕ) (asked : List ℤ) → AllFine asked → total_surplus_of asked ≤ left → pay_answers p q gaps left asked ≡ map (due_answer p q gaps) asked
paid_within p q gaps left [] fine covered = refl
paid_within p q gaps left (gap ∷ asked) fine covered =
    ap (λ (r : Result ℤ SheetFault). r ∷ pay_answers p q gaps (left_after left gap) asked) (covered_gap_paid p q gaps left gap fine.0 first)
    ∙ ap (λ (n : ℕ). due_answer p q gaps gap ∷ pay_answers p q gaps n asked) (covered_gap_left left gap fine.0 first)
    ∙ ap (λ (rs : List (Result ℤ SheetFault)). due_answer p q gaps gap ∷ rs)
    (paid_within p q gaps (left - surplus gap) asked fine.1 (omega (arith, sum_by-cons surplus gap asked)))
  where
    first : surplus gap ≤ left
    first = omega (arith, sum_by-cons surplus gap asked)

-- an amount above 0 is the surplus at the paid price
surplus_owed : (n : ℕ) → surplus (neg_ℤ (pos n)) ≡ 0
surplus_owed zero = refl
surplus_owed (suc n) = refl

surplus_amount : (p price : ℕ) (gap : ℤ) → surplus (amount p price gap) ≡ surplus gap * price
surplus_amount p price (pos n) = refl
surplus_amount p price (negsuc n) = omega (arith, surplus_owed ((n + 1) * p))

-- one answer pays out what it takes from the surplus left
answer_within : (p q : ℕ) (gaps : List ℤ) (left : ℕ) (gap : ℤ) → received (paying p q gaps left gap) + left_after left gap * paid_price_of p q gaps ≤ left * paid_price_of p q gaps
answer_within p q gaps left gap =
    by_fault (gap_fine gap) (leb (surplus gap) left)
    (λ room.
    omega (
      arith,
      surplus_amount p price gap,
      add-mul (surplus gap) (left - surplus gap) price,
      ap (λ (n : ℕ). n * price) (let whole : surplus gap + (left - surplus gap) ≡ left = omega (arith, leb-true (surplus gap) left room) in whole),
    ))
  where
    price : ℕ
    price = paid_price_of p q gaps

    by_fault : (fine room : Bool) → (room ≡ true → surplus (amount p price gap) + (left - surplus gap) * price ≤ left * price) → received (answered (cond fine (cond room None (Some NotLeft)) (Some GapOutOfRange)) (amount p price gap)) + left_by (cond fine (cond room None (Some NotLeft)) (Some GapOutOfRange)) (left - surplus gap) left * price ≤ left * price
    by_fault true true accepted = accepted refl
    by_fault true false accepted = omega arith
    by_fault false true accepted = omega arith
    by_fault false false accepted = omega arith

answers_within : (p q : ℕ) (gaps : List ℤ) (left : ℕ) (asked : List ℤ) → sum_by received (pay_answers p q gaps left asked) ≤ left * paid_price_of p q gaps
answers_within p q gaps left [] = omega arith
answers_within p q gaps left (gap ∷ asked) =
    omega (
      arith,
      sum_by-cons received (paying p q gaps left gap) (pay_answers p q gaps (left_after left gap) asked),
      answer_within p q gaps left gap,
      answers_within p q gaps (left_after left gap) asked,
    )

pub every_settlement_is_lawful : (p q : ℕ) (gaps : List ℤ) → Lawful p q gaps
every_settlement_is_lawful p q gaps =
    record {
      fair = paid_price_is_fair p q gaps;
      only = λ price fair. one_fair_price p q gaps price (paid_price_of p q gaps) fair (paid_price_is_fair p q gaps);
      whole = omega (arith, (paid_price_is_fair p q gaps).covered);
      even = omega (arith, ints, sum_from p (paid_price_of p q gaps) (pos 0) gaps);
      each_paid = entered_gap_paid p q gaps;
      all_paid = λ fine order shuffled.
          paid_within p q gaps (total_surplus_of gaps) order (all_shuffled Fine gaps order shuffled fine) (omega (arith, sum_by-IsPermutation surplus gaps order shuffled));
      never_more = λ asked. omega (arith, (paid_price_is_fair p q gaps).covered, answers_within p q gaps (total_surplus_of gaps) asked);
    }
