use Rattle.registers.proofs.Changes.{found, numbered, rising_set}
use Rattle.registers.proofs.Register.replace.Goals as goal

pub invariant_of-self : goal.invariant_of-self
invariant_of-self g c =
    let key = g.R.Keyed.key in
    let there = found key _ _ _ _ c.seek.ensures c.in_ok-at.ensures.value in
    let same = numbered key _ _ _ there c.args.record in
    record { rising = rising_set key _ _ _ _ c.replace.ensures.after there.within (cc (same, c.number.ensures)) c.args.self.now.rising }
