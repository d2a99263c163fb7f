use Rattle.std.proofs.Common.{ℕ, ◌+◌, get_or, drop, set, ℤ, pos, sym, ◌∙◌, subst, w64, SFits, rules}
use Rattle.std.proofs.lemmas.Int.{to_z-of_z}
use Rattle.settlement.specs.Rules.{total_surplus_of}
use Rattle.settlement.specs.Sheets.{Pays}
use Rattle.settlement.proofs.Turns.{same_ok, Turned, paid_in_turn, left_in_turn, turned_more}
use Rattle.settlement.proofs.pay_all.Goals as goal

-- a gap that was entered is not refused
pub returns-in_err-gap : goal.returns-in_err-gap
returns-in_err-gap c =
    let gaps = c.args.gaps.now in
    let i = c.loop-gap.gap-index in
    let fits : SFits w64 (get_or c.loop-gap.gaps c.loop-gap.gap-index (pos 0)) = search rules in
    let never : (p q : ℕ) → Pays c.args.paying p q c.args.gaps.now (total_surplus_of c.args.gaps.now) → ⊥
    = λ p q pays.
    let inv = c.loop-gap.invariant p q pays in
    let said = simp to_z-of_z at (c.pay.ensures.answer p q gaps (total_surplus_of (drop i gaps)) inv.0) in
    let paid = paid_in_turn p q gaps i c.loop-gap.gaps c.loop-gap-test.true pays.settles.due.fine inv.1 in
    cc (said ∙ paid, c.in_err-gap.was) in
    record { answer = λ p q pays. absurd (never p q pays); after = λ p q pays. absurd (never p q pays) }

pub loop-gap-preserved : goal.loop-gap-preserved
loop-gap-preserved c p q pays =
    let gaps = c.args.gaps.now in
    let i = c.loop-gap.gap-index in
    let changed = c.loop-gap.gaps in
    let inv = c.loop-gap.invariant p q pays in
    let within = c.loop-gap-test.true in
    let fits : SFits w64 (get_or c.loop-gap.gaps c.loop-gap.gap-index (pos 0)) = search rules in
    let whole : SFits w64 c.in_ok-gap.field-0 = search rules in
    let said = simp to_z-of_z at (c.pay.ensures.answer p q gaps (total_surplus_of (drop i gaps)) inv.0) in
    let held = simp to_z-of_z at (c.pay.ensures.after p q gaps (total_surplus_of (drop i gaps)) inv.0) in
    let is = same_ok _ _ _ c.in_ok-gap.was (said ∙ paid_in_turn p q gaps i changed within pays.settles.due.fine inv.1) in (
      subst (Pays c.pay.new.self p q gaps) (left_in_turn p q gaps i changed within pays.settles.due.fine inv.1) held,
      subst (λ (z : ℤ). Turned p q gaps (i + 1) (set changed i z)) (sym (to_z-of_z w64 c.in_ok-gap.field-0 whole ∙ is)) (turned_more p q gaps i changed within inv.1),
    )
