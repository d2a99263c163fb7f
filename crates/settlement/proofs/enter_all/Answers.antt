use Rattle.std.proofs.Common.{get_or, take, pos, sym, ◌∙◌, subst, w64, SFits, rules}
use Rattle.std.proofs.lemmas.List.{take_all}
use Rattle.std.proofs.lemmas.Result.{err_from_is_err_and}
use Rattle.std.proofs.lemmas.Int.{to_z-of_z}
use Rattle.settlement.specs.Sheets.{Holds}
use Rattle.settlement.proofs.Turns.{entered_in_turn, no_fault_so_far, fault_in_turn}
use Rattle.settlement.proofs.enter_all.Goals as goal

pub returns-in_err-enter-clause-answer : goal.returns-in_err-enter-clause-answer
returns-in_err-enter-clause-answer c =
    let p = c.args.prices in
    let gaps = c.args.gaps.now in
    let i = c.loop-gap.gap-index in
    let fits : SFits w64 (get_or c.args.gaps.now c.loop-gap.gap-index (pos 0)) = search rules in
    let said = simp to_z-of_z at (c.enter.ensures.answer p.shortage p.surplus (take i gaps) c.loop-gap.invariant.0) in
    let e = err_from_is_err_and c.from_residual.result c.from_residual.ensures.1 in
    rw (e.1, e.2) (sym (fault_in_turn gaps i _ c.loop-gap-test.true (sym said ∙ c.in_err-enter.was)) ∙ c.loop-gap.invariant.1)

pub loop-gap-preserved : goal.loop-gap-preserved
loop-gap-preserved c =
    let p = c.args.prices in
    let gaps = c.args.gaps.now in
    let i = c.loop-gap.gap-index in
    let fits : SFits w64 (get_or c.args.gaps.now c.loop-gap.gap-index (pos 0)) = search rules in
    let said = simp to_z-of_z at (c.enter.ensures.answer p.shortage p.surplus (take i gaps) c.loop-gap.invariant.0) in
    let held = simp to_z-of_z at (c.enter.ensures.after p.shortage p.surplus (take i gaps) c.loop-gap.invariant.0) in
    let ok = sym said ∙ c.in_ok-enter.was in (
      subst (Holds c.enter.new.self p.shortage p.surplus) (entered_in_turn gaps i _ c.loop-gap-test.true ok) held,
      sym (no_fault_so_far gaps i _ c.loop-gap-test.true ok) ∙ c.loop-gap.invariant.1,
    )

pub returns-clause-after : goal.returns-clause-after
returns-clause-after c =
    let p = c.args.prices in
    let gaps = c.args.gaps.now in
    let all = take_all c.loop-gap.gap-index gaps c.loop-gap-test.false in
    c.end.ensures.after p.shortage p.surplus gaps (subst (Holds c.loop-gap.sheet p.shortage p.surplus) all c.loop-gap.invariant.0)
