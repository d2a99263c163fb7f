use Rattle.curves.proofs.Charts.{shares_most}
use Rattle.curves.specs.declared.levels.Method.TheVariants.{Dispatchable}
use Rattle.curves.proofs.levels.Method.share.Goals as goal

pub returns-in-Dispatchable-clause-bound : goal.returns-in-Dispatchable-clause-bound
returns-in-Dispatchable-clause-bound c =
    rw (c.from.ensures, c.kj.ensures, c.from-in-Dispatchable.ensures, c.kh.ensures) (shares_most Dispatchable c.args.supply)
