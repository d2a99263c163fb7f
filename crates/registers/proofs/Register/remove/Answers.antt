use Rattle.registers.proofs.Changes.{rising_closed}
use Rattle.registers.proofs.Register.remove.Goals as goal

pub invariant_of-self : goal.invariant_of-self
invariant_of-self g c = record { rising = rising_closed g.R.Keyed.key _ _ _ c.remove.ensures.after c.args.self.now.rising }
