use Rattle.std.proofs.Common.{List, take, is_ok, ap, ◌∙◌, subst, w64, SFits, rules}
use Rattle.std.proofs.lemmas.List.{take_all}
use Rattle.std.proofs.lemmas.Int.{to_z-of_z}
use Rattle.settlement.specs.Sheets.{Holds}
use Rattle.rules.specs.declared.records.Account.{Account}
use Rattle.rules.specs.Settling.{gaps_of}
use Rattle.accounts.proofs.Sounds.{at_most_64}
use Rattle.accounts.proofs.Gaps.{next_gap_counts, next_gap_entered}
use Rattle.accounts.proofs.open.OpenAccounts.paying_sheet.Goals as goal

pub unwrap-requires : goal.unwrap-requires
unwrap-requires g c =
    let s = c.args.self.now in
    let f = g.L.Ledger.holding c.args.ledger.now in
    let i = c.loop-account.account-index in
    let fits : SFits w64 c.gap_of.result = search rules in
    let said = simp to_z-of_z at (c.enter.ensures.answer _ _ (gaps_of s.terms.n s.terms.security f (take i s.accounts.now)) c.loop-account.invariant) in
    ap is_ok (said ∙ next_gap_counts s.terms.n s.terms.security f s.accounts.now i c.gap_of.result c.loop-account-test.true (at_most_64 s.terms.n s.accounts.now s.kept) c.gap_of.ensures.bound)

pub loop-account-preserved : goal.loop-account-preserved
loop-account-preserved g c =
    let s = c.args.self.now in
    let f = g.L.Ledger.holding c.args.ledger.now in
    let i = c.loop-account.account-index in
    let fits : SFits w64 c.gap_of.result = search rules in
    let held = simp to_z-of_z at (c.enter.ensures.after _ _ (gaps_of s.terms.n s.terms.security f (take i s.accounts.now)) c.loop-account.invariant) in
    subst (Holds c.enter.new.self c.args.prices.shortage c.args.prices.surplus) (next_gap_entered s.terms.n s.terms.security f s.accounts.now i _ c.gap_of.result c.loop-account-test.true (at_most_64 s.terms.n s.accounts.now s.kept) c.gap_of.ensures.bound c.gap_of.ensures.answer) held

pub returns : goal.returns
returns g c =
    let s = c.args.self.now in
    let f = g.L.Ledger.holding c.args.ledger.now in
    let Held : List Account → Type 0 = λ accounts. Holds c.loop-account.sheet c.args.prices.shortage c.args.prices.surplus (gaps_of s.terms.n s.terms.security f accounts) in
    c.end.ensures.after _ _ (gaps_of s.terms.n s.terms.security f s.accounts.now) (subst Held (take_all _ _ c.loop-account-test.false) c.loop-account.invariant)
