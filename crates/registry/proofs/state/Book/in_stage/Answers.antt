use Rattle.std.proofs.Common.{◌||◌, sym, ap, subst}
use Rattle.rules.specs.declared.calls.Call.{Call}
use Rattle.rules.specs.Calls.{Called}
use Rattle.rules.specs.Year.{is_trading, is_closed}
use Rattle.registry.specs.declared.phase.Phase.{Phase}
use Rattle.registry.specs.Phases.{stage_of}
use Rattle.registry.specs.Model.{year_in}
use Rattle.registry.proofs.state.Book.in_stage.Goals as goal

pub returns-in-Trading-Open : goal.returns-in-Trading-Open
returns-in-Trading-Open g c =
    let f = g.L.Ledger.holding c.args.ledger.now in
    let m = g.L.Ledger.posts c.args.ledger.now in
    subst (λ (k : Call). Called k c.open.result (year_in c.args.self.now) (year_in c.open.new.self) f f m m) (sym c.in-Trading-Open.is-1) (c.open.ensures f m (ap (λ (p : Phase). is_trading (stage_of p)) c.in-Trading-Open.is-0))

pub returns-in-Trading-Load : goal.returns-in-Trading-Load
returns-in-Trading-Load g c =
    let f = g.L.Ledger.holding c.args.ledger.now in
    let m = g.L.Ledger.posts c.args.ledger.now in
    subst (λ (k : Call). Called k c.load.result (year_in c.args.self.now) (year_in c.load.new.self) f f m m) (sym c.in-Trading-Load.is-1) (c.load.ensures f m (ap (λ (p : Phase). is_trading (stage_of p) || is_closed (stage_of p)) c.in-Trading-Load.is-0))

pub returns-in-Closed-Load : goal.returns-in-Closed-Load
returns-in-Closed-Load g c =
    let f = g.L.Ledger.holding c.args.ledger.now in
    let m = g.L.Ledger.posts c.args.ledger.now in
    subst (λ (k : Call). Called k c.load-in-Closed-Load.result (year_in c.args.self.now) (year_in c.load-in-Closed-Load.new.self) f f m m) (sym c.in-Closed-Load.is-1) (c.load-in-Closed-Load.ensures f m (ap (λ (p : Phase). is_trading (stage_of p) || is_closed (stage_of p)) c.in-Closed-Load.is-0))
