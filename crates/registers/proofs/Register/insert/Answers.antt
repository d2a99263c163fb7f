use Rattle.registers.proofs.Changes.{rising_opened}
use Rattle.registers.proofs.Register.insert.Goals as goal

pub invariant_of-self : goal.invariant_of-self
invariant_of-self g c = record { rising = rising_opened g.R.Keyed.key _ _ _ _ _ c.number.ensures c.in-Err.ensures c.insert.ensures.after c.args.self.now.rising }
