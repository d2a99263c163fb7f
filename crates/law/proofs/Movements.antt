-- What one more fact adds to the movements, in all and on one account.
use Rattle.std.proofs.Common.{◌≡◌, ℕ, ◌+◌, cond, List, ◌∷◌, sum_by, ◌∙◌, arith}
use Rattle.std.proofs.lemmas.List.Sums.{sum_by-cons}
use Rattle.rules.specs.declared.records.Offer.{Offer}
use Rattle.rules.specs.Facts.{Fact, closed, moved, to, returned_to}
use Rattle.law.specs.Law.{Reason, certification, raise, cut, offering, ending, entries, same_reason, all, on, holds, OwnPart}
use Rattle.law.proofs.Totals.{sum_by_map, sum_by_zero}

-- What a fact moves for a reason, and on the account k.
abbrev pub moves : Reason → Fact → ℕ
moves r f = sum_by (λ e. cond (same_reason r e.reason) e.amount 0) (entries f)

abbrev pub moves_on : ℕ → Reason → Fact → ℕ
moves_on k r f = sum_by (λ e. cond (same_reason r e.reason) (to e.account e.amount k) 0) (entries f)

all_more : (r : Reason) (f : Fact) (fs : List Fact) → all r (f ∷ fs) ≡ moves r f + all r fs
all_more r f fs = sum_by-cons (moves r) f fs

on_more : (k : ℕ) (r : Reason) (f : Fact) (fs : List Fact) → on k r (f ∷ fs) ≡ moves_on k r f + on k r fs
on_more k r f fs = sum_by-cons (moves_on k r) f fs

-- The sum of the levels follows the certifications, raises and cuts, if it does so at the fact.
pub sums_more : (f : Fact) (fs : List Fact) (levels levels' : ℕ) → levels' + moves cut f ≡ levels + moves certification f + moves raise f
    → levels + all cut fs ≡ all certification fs + all raise fs → levels' + all cut (f ∷ fs) ≡ all certification (f ∷ fs) + all raise (f ∷ fs)
sums_more f fs levels levels' now before = omega (arith, now, before, all_more cut f fs, all_more certification f fs, all_more raise f fs)

-- The account k keeps its own part, if it does so at the fact.
pub part_more : (start : ℕ → ℕ) (f : Fact) (fs : List Fact) (k : ℕ)
    → moved f (holds start fs) k + moves_on k offering f + moves_on k cut f ≡ holds start fs k + moves_on k certification f + moves_on k raise f + moves_on k ending f
    → OwnPart start fs k → OwnPart start (f ∷ fs) k
part_more start f fs k now before =
    omega (arith, now, before, on_more k offering f fs, on_more k cut f fs, on_more k certification f fs, on_more k raise f fs, on_more k ending f fs)

-- A close moves every offer's amount to its seller, and nothing else.
pub closed_ending : (k : ℕ) (os : List Offer) → moves_on k ending (closed os) ≡ returned_to k os
closed_ending k os = sum_by_map _ _ os

pub closed_other : (k : ℕ) (os : List Offer) → (moves_on k offering (closed os) ≡ 0) × (moves_on k cut (closed os) ≡ 0) × (moves_on k certification (closed os) ≡ 0) × (moves_on k raise (closed os) ≡ 0)
closed_other k os = (sum_by_map _ _ os ∙ sum_by_zero os, sum_by_map _ _ os ∙ sum_by_zero os, sum_by_map _ _ os ∙ sum_by_zero os, sum_by_map _ _ os ∙ sum_by_zero os)

pub closed_levels : (os : List Offer) → (moves cut (closed os) ≡ 0) × (moves certification (closed os) ≡ 0) × (moves raise (closed os) ≡ 0)
closed_levels os = (sum_by_map _ _ os ∙ sum_by_zero os, sum_by_map _ _ os ∙ sum_by_zero os, sum_by_map _ _ os ∙ sum_by_zero os)
