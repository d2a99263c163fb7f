use Rattle.std.proofs.Common.{◌<◌, sym, ◌∙◌, arith}
use Rattle.postings.proofs.Holders.{passed_by, found_at, found_nowhere}
use Rattle.postings.proofs.lowest_holder.Goals as goal

pub returns-then-holds_some : goal.returns-then-holds_some
returns-then-holds_some g c =
    let within : c.loop-account.account < 65 = omega (arith, c.loop-account-test.true) in
    found_at (g.L.Ledger.holding c.args.ledger.now) c.loop-account.account _ within c.loop-account.invariant.1 (sym c.holds_some.ensures ∙ c.if-holds_some.true)

pub loop-account-preserved : goal.loop-account-preserved
loop-account-preserved g c =
    let within : c.loop-account.account < 65 = omega (arith, c.loop-account-test.true) in
    (omega arith, passed_by (g.L.Ledger.holding c.args.ledger.now) c.loop-account.account _ within c.loop-account.invariant.1 (sym c.holds_some.ensures ∙ c.if-holds_some.false))

pub returns : goal.returns
returns g c = found_nowhere (g.L.Ledger.holding c.args.ledger.now) c.loop-account.account _ c.loop-account-test.false c.loop-account.invariant.1
