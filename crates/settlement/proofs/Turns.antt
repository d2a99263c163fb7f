-- Gaps entered in turn, and paid in turn.
use Rattle.std.proofs.Common.{◌≡◌, ℕ, ◌+◌, ◌<◌, ◌≤◌, List, ◌++◌, map, length, get_or, take, drop, set, ℤ, pos, Some, None, Ok, Err, Option, Result, sym, refl, ap, ◌∙◌, arith}
use Rattle.std.proofs.ByRecursion.{All-get_or}
use Rattle.std.proofs.lemmas.Grind.{common_steps}
use Rattle.std.proofs.lemmas.List.{append-nil, at_drop_all, drop_all, drop_more, get_or_default, length-take-le, take_all, take_more}
use Rattle.std.proofs.lemmas.List.Edits.{map_over_more}
use Rattle.std.proofs.lemmas.List.Sums.{sum_by-drop_more}
use Rattle.std.specs.Option.{option_or}
use Rattle.settlement.specs.declared.fault.SheetFault.{SheetFault}
use Rattle.settlement.specs.Rules.{surplus, total_surplus_of, paid_price_of, amount, amounts}
use Rattle.settlement.specs.Tallies.{Fine, AllFine}
use Rattle.settlement.specs.Faults.{answered}
use Rattle.settlement.specs.Sheets.{price_fault, entering, entered, paying, left_after}
use Rattle.settlement.specs.Whole.{gaps_fault, settle_fault}
use Rattle.settlement.proofs.Payments.{covered_gap_paid, covered_gap_left}

-- what an answer says of the fault
ok_has_no_fault : {X : Type 0} (fault : Option SheetFault) (value said : X) → answered fault value ≡ Ok said → fault ≡ None
ok_has_no_fault None value said e = refl
ok_has_no_fault (Some fault) value said e = cc

err_has_fault : {X : Type 0} (fault : Option SheetFault) (value : X) (said : SheetFault) → answered fault value ≡ Err said → fault ≡ Some said
err_has_fault None value said e = cc
err_has_fault (Some fault) value said e = cc

-- two answers of one call
pub ok_is_no_err : {X : Type 0} (r : Result X SheetFault) (x : X) (fault : SheetFault) → r ≡ Ok x → r ≡ Err fault → ⊥
ok_is_no_err r x fault ok err = cc

pub same_ok : {X : Type 0} (r : Result X SheetFault) (x y : X) → r ≡ Ok x → r ≡ Ok y → x ≡ y
same_ok r x y a b = cc

-- the gap at place i has its turn, after those before it
pub entered_in_turn : (gaps : List ℤ) (i said : ℕ) → i < length gaps → entering (take i gaps) (get_or gaps i (pos 0)) ≡ Ok said → entered (take i gaps) (get_or gaps i (pos 0)) ≡ take (i + 1) gaps
entered_in_turn gaps i said within e = rw (ok_has_no_fault _ _ said e) (sym (take_more gaps i (pos 0) within))

pub no_fault_so_far : (gaps : List ℤ) (i said : ℕ) → i < length gaps → entering (take i gaps) (get_or gaps i (pos 0)) ≡ Ok said → gaps_fault i (drop i gaps) ≡ gaps_fault (i + 1) (drop (i + 1) gaps)
no_fault_so_far gaps i said within e =
    rw (drop_more gaps i (pos 0) within, ok_has_no_fault _ _ said (rw (length-take-le i gaps (omega arith)) at e))

pub fault_in_turn : (gaps : List ℤ) (i : ℕ) (said : SheetFault) → i < length gaps → entering (take i gaps) (get_or gaps i (pos 0)) ≡ Err said → gaps_fault i (drop i gaps) ≡ Some said
fault_in_turn gaps i said within e =
    rw (drop_more gaps i (pos 0) within, err_has_fault _ _ said (rw (length-take-le i gaps (omega arith)) at e))

pub no_fault_at_all : (gaps : List ℤ) (i : ℕ) → length gaps ≤ i → gaps_fault i (drop i gaps) ≡ None
no_fault_at_all gaps i past = at_drop_all (gaps_fault i) gaps i past

-- fine prices leave the gaps to blame
pub gaps_to_blame : (p q : ℕ) (gaps : List ℤ) → price_fault p q ≡ None → settle_fault p q gaps ≡ gaps_fault 0 gaps
gaps_to_blame p q gaps fine = ap (λ (f : Option SheetFault). option_or f (gaps_fault 0 gaps)) fine

-- The first i gaps of a list have given way to their amounts.
abbrev pub Turned : ℕ → ℕ → List ℤ → ℕ → List ℤ → Type 0
Turned p q gaps i changed = changed ≡ map (amount p (paid_price_of p q gaps)) (take i gaps) ++ drop i gaps

-- the gap at place i has its turn: it still stands there, and the surplus left is its own and that of the gaps after it
still_there : (p q : ℕ) (gaps : List ℤ) (i : ℕ) (changed : List ℤ) → i < length gaps → Turned p q gaps i changed → get_or changed i (pos 0) ≡ get_or gaps i (pos 0)
still_there p q gaps i changed within turned = grind (arith, common_steps)

surplus_left : (gaps : List ℤ) (i : ℕ) → i < length gaps → surplus (get_or gaps i (pos 0)) ≤ total_surplus_of (drop i gaps)
surplus_left gaps i within = omega (arith, sum_by-drop_more surplus gaps i (pos 0) within)

fine_at : (gaps : List ℤ) (i : ℕ) → i < length gaps → AllFine gaps → Fine (get_or gaps i (pos 0))
fine_at gaps i within fine = All-get_or Fine gaps i (pos 0) within fine

pub paid_in_turn : (p q : ℕ) (gaps : List ℤ) (i : ℕ) (changed : List ℤ) → i < length gaps → AllFine gaps → Turned p q gaps i changed → paying p q gaps (total_surplus_of (drop i gaps)) (get_or changed i (pos 0)) ≡ Ok (amount p (paid_price_of p q gaps) (get_or changed i (pos 0)))
paid_in_turn p q gaps i changed within fine turned =
    rw (still_there p q gaps i changed within turned)
    (covered_gap_paid p q gaps (total_surplus_of (drop i gaps)) (get_or gaps i (pos 0)) (fine_at gaps i within fine) (surplus_left gaps i within))

pub left_in_turn : (p q : ℕ) (gaps : List ℤ) (i : ℕ) (changed : List ℤ) → i < length gaps → AllFine gaps → Turned p q gaps i changed → left_after (total_surplus_of (drop i gaps)) (get_or changed i (pos 0)) ≡ total_surplus_of (drop (i + 1) gaps)
left_in_turn p q gaps i changed within fine turned =
    rw (still_there p q gaps i changed within turned)
    (covered_gap_left (total_surplus_of (drop i gaps)) (get_or gaps i (pos 0)) (fine_at gaps i within fine) (surplus_left gaps i within)
    ∙ omega (arith, sum_by-drop_more surplus gaps i (pos 0) within))

pub turned_more : (p q : ℕ) (gaps : List ℤ) (i : ℕ) (changed : List ℤ) → i < length gaps → Turned p q gaps i changed → Turned p q gaps (i + 1) (set changed i (amount p (paid_price_of p q gaps) (get_or changed i (pos 0))))
turned_more p q gaps i changed within turned =
    let f = amount p (paid_price_of p q gaps) in
    let same : length changed ≡ length gaps = grind (arith, common_steps) in
    map_over_more f gaps changed i (get_or changed i (pos 0)) within turned (get_or_default changed i (pos 0) (get_or changed i (pos 0)) (omega arith))

pub turned_all : (p q : ℕ) (gaps : List ℤ) (i : ℕ) (changed : List ℤ) → length gaps ≤ i → Turned p q gaps i changed → changed ≡ amounts p q gaps
turned_all p q gaps i changed past turned =
    turned
    ∙ ap (λ (rest : List ℤ). map (amount p (paid_price_of p q gaps)) (take i gaps) ++ rest) (drop_all i gaps past)
    ∙ append-nil (map (amount p (paid_price_of p q gaps)) (take i gaps))
    ∙ ap (map (amount p (paid_price_of p q gaps))) (take_all i gaps past)
