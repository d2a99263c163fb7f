use Rattle.std.proofs.Common.{◌≡◌, is_ok, Ok, ap, ◌∙◌, arith, w32, w64, SFits, to_z, of_z, rules}
use Rattle.std.proofs.lemmas.Int.{ints, to_z-of_z}
use Rattle.settlement.specs.Rules.{total_surplus_of}
use Rattle.settlement.specs.Sheets.{paying}
use Rattle.settlement.proofs.Turns.{same_ok}
use Rattle.settlement.proofs.Payments.{entered_gap_paid}
use Rattle.rules.specs.Settling.{gap_of, gaps_of, statement_of}
use Rattle.accounts.proofs.Sounds.{sound_found}
use Rattle.accounts.proofs.Gaps.{gap_from, gap_among, same_statement}
use Rattle.accounts.proofs.open.OpenAccounts.statement.Given as given
use Rattle.accounts.proofs.open.OpenAccounts.statement.Goals as goal
use Rattle.accounts.proofs.open.OpenAccounts.statement.Goals.{After-pay}

pub holding_of-holding-requires : goal.holding_of-holding-requires
holding_of-holding-requires g c =
    let sound = sound_found c.args.self.now.terms.n c.args.self.now.accounts.now c.args.account c.args.self.now.kept c.requires in
    record { first = sound.0; last = sound.1 }

pub obligation_of-obligation-requires : goal.obligation_of-obligation-requires
obligation_of-obligation-requires g c =
    sound_found c.args.self.now.terms.n c.args.self.now.accounts.now c.args.account c.args.self.now.kept c.requires

is_gap : (g : given.Over) (c : After-pay g) → c.gap-gap.result ≡ gap_of c.args.self.now.terms.n c.args.self.now.terms.security (g.L.Ledger.holding c.args.ledger.now) c.args.account
is_gap g c =
    gap_from c.args.self.now.terms.n c.args.self.now.terms.security (g.L.Ledger.holding c.args.ledger.now) c.args.account
    c.holding_of-holding.result c.obligation_of-obligation.result c.gap-gap.result
    c.holding_of-holding.ensures.answer c.obligation_of-obligation.ensures.answer c.gap-gap.ensures.answer

is_paid : (g : given.Over) (c : After-pay g) → c.pay.result ≡ Ok (statement_of c.args.self.now.terms.n c.args.self.now.terms.security c.args.prices.shortage c.args.prices.surplus (g.L.Ledger.holding c.args.ledger.now) c.args.self.now.accounts.now c.args.account).amount
is_paid g c =
    let n = c.args.self.now.terms.n in
    let security = c.args.self.now.terms.security in
    let p = c.args.prices.shortage in
    let q = c.args.prices.surplus in
    let f = g.L.Ledger.holding c.args.ledger.now in
    let gaps = gaps_of n security f c.args.self.now.accounts.now in
    let fits : SFits w64 c.gap-gap.result = search rules in
    let said = simp to_z-of_z at (c.pay.ensures.answer p q gaps (total_surplus_of gaps) c.paying_sheet-paying.ensures) in
    said
    ∙ ap (paying p q gaps (total_surplus_of gaps)) (is_gap g c)
    ∙ entered_gap_paid p q gaps c.paying_sheet-paying.ensures.settles.due.fine (gap_of n security f c.args.account) (gap_among n security f c.args.self.now.accounts.now c.args.account c.requires)

pub unwrap-amount-requires : goal.unwrap-amount-requires
unwrap-amount-requires g c = ap is_ok (is_paid g c)

pub returns : goal.returns
returns g c =
    let paid = is_paid g (goal.at.returns g c).After-pay in
    let gap = is_gap g (goal.at.returns g c).After-pay in
    let narrow : to_z w32 (of_z w32 (to_z w64 (of_z w64 c.gap-gap.result))) ≡ c.gap-gap.result = omega (arith, ints) in
    let whole : to_z w64 (of_z w64 c.unwrap-amount.result) ≡ c.unwrap-amount.result = omega (arith, ints) in
    same_statement _ _ _ _ _ c.holding_of-holding.ensures.answer c.obligation_of-obligation.ensures.answer (narrow ∙ gap) (whole ∙ same_ok c.pay.result _ _ c.unwrap-amount.ensures paid)
