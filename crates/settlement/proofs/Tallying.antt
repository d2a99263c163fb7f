-- The lists behind a sheet's figures.
use Rattle.std.proofs.Common.{ℕ, ◌+◌, ◌*◌, ◌≤◌, leb, List, [], ◌∷◌, ◌++◌, ℤ, arith}
use mathlib.Core.Logic.{∥∥₁_map}
use Rattle.std.proofs.ByRecursion.{All-push}
use Rattle.std.proofs.lemmas.List.{length_push}
use Rattle.std.proofs.lemmas.List.Sums.{sum_by_push}
use Rattle.std.proofs.lemmas.Bool.{and_parts, leb-true}
use Rattle.settlement.specs.Rules.{widest_shortage, widest_surplus, shortage, surplus, price_within}
use Rattle.settlement.specs.Tallies.{Fine, Tally, Tallied, Due, Ended}

pub fine_shortage : (gap : ℤ) → Fine gap → shortage gap ≤ widest_shortage
fine_shortage gap fine = leb-true _ _ (and_parts (leb (shortage gap) widest_shortage) _ fine).0

pub fine_surplus : (gap : ℤ) → Fine gap → surplus gap ≤ widest_surplus
fine_surplus gap fine = leb-true _ _ (and_parts (leb (shortage gap) widest_shortage) _ fine).1

-- one more gap at the end
pub tally_push : (s t n : ℕ) (gaps : List ℤ) (gap : ℤ) → Fine gap → Tally s t n gaps → Tally (s + shortage gap) (t + surplus gap) (n + 1) (gaps ++ gap ∷ [])
tally_push s t n gaps gap fine tally =
    record {
      fine = All-push Fine gaps gap tally.fine fine;
      is_shortage = omega (arith, sum_by_push shortage gaps gap);
      is_surplus = omega (arith, sum_by_push surplus gaps gap);
      is_count = omega (arith, length_push gaps gap);
    }

pub tallied_push : (s t n : ℕ) (gap : ℤ) → Fine gap → Tallied s t n → Tallied (s + shortage gap) (t + surplus gap) (n + 1)
tallied_push s t n gap fine some = ∥∥₁_map some (λ h. (h.0 ++ gap ∷ [], tally_push s t n h.0 gap fine h.1))

-- the figures of a sheet that is ended
pub due_at_end : (p q s t n : ℕ) (gaps : List ℤ) → Tally s t n gaps → Due p (price_within (s * p) t q) t (s * p) q gaps
due_at_end p q s t n gaps tally =
    record {
      fine = tally.fine;
      is_price = rw (tally.is_shortage, tally.is_surplus);
      is_surplus = tally.is_surplus;
      is_collected = rw tally.is_shortage;
    }

pub ended_at_end : (p q s t n : ℕ) → Tallied s t n → Ended p (price_within (s * p) t q) t (s * p)
ended_at_end p q s t n some = ∥∥₁_map some (λ h. (q, h.0, due_at_end p q s t n h.0 h.1))
