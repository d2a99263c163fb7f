-- Paying from an ended sheet.
use Rattle.std.proofs.Common.{◌≡◌, ℕ, ◌-◌, ◌≤◌, List, ℤ, None, Ok, ap, arith}
use Rattle.std.proofs.ByRecursion.{all-has}
use Rattle.std.proofs.lemmas.List.Sums.{get_or-le-sum_by}
use Rattle.std.proofs.lemmas.Bool.{le-leb}
use Rattle.std.specs.List.{ContainsAt}
use Rattle.settlement.specs.Rules.{surplus, total_surplus_of, paid_price_of, amount}
use Rattle.settlement.specs.Tallies.{Fine, AllFine}
use Rattle.settlement.specs.Sheets.{pay_fault, paying, left_after}

-- a fine gap that the surplus left covers is accepted
covered_gap_accepted : (left : ℕ) (gap : ℤ) → Fine gap → surplus gap ≤ left → pay_fault left gap ≡ None
covered_gap_accepted left gap fine covered = rw (fine, le-leb (surplus gap) left covered)

pub covered_gap_paid : (p q : ℕ) (gaps : List ℤ) (left : ℕ) (gap : ℤ) → Fine gap → surplus gap ≤ left → paying p q gaps left gap ≡ Ok (amount p (paid_price_of p q gaps) gap)
covered_gap_paid p q gaps left gap fine covered = rw (covered_gap_accepted left gap fine covered)

pub covered_gap_left : (left : ℕ) (gap : ℤ) → Fine gap → surplus gap ≤ left → left_after left gap ≡ left - surplus gap
covered_gap_left left gap fine covered = rw (covered_gap_accepted left gap fine covered)

-- a gap that was entered is paid from a fresh paying sheet
pub entered_gap_paid : (p q : ℕ) (gaps : List ℤ) → AllFine gaps → (gap : ℤ) → ContainsAt gaps gap → paying p q gaps (total_surplus_of gaps) gap ≡ Ok (amount p (paid_price_of p q gaps) gap)
entered_gap_paid p q gaps fine gap has =
    covered_gap_paid p q gaps (total_surplus_of gaps) gap (all-has Fine gaps gap fine has)
    (omega (arith, ap surplus (has.2 gap), get_or-le-sum_by surplus gaps has.0 gap has.1))
