use Rattle.settlement.proofs.Tallying.{tallied_push}
use Rattle.settlement.proofs.totals.Totals.add.Goals as goal

pub invariant_of-self-clause-stands : goal.invariant_of-self-clause-stands
invariant_of-self-clause-stands c =
    let t = c.args.self.now in
    simp (c.shortage.ensures, c.surplus.ensures) (tallied_push t.shortage t.surplus t.count c.args.gap.guarantees c.args.gap.fine t.stands)
