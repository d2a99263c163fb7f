use Rattle.registers.proofs.Members.{member_inserted}
use Rattle.registers.proofs.Order.{rising_inserted}
use Rattle.registers.proofs.laws.gains_exactly_the_new_record.Goals as goal

pub returns : goal.returns
returns g c = λ xs r h free. (rising_inserted g.R.Keyed.key r xs h free, member_inserted g.R.Keyed.key r xs)
