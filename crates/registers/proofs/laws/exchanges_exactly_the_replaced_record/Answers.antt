use Rattle.registers.proofs.Members.{member_replaced}
use Rattle.registers.proofs.Order.{rising_replaced}
use Rattle.registers.proofs.laws.exchanges_exactly_the_replaced_record.Goals as goal

pub returns : goal.returns
returns g c = λ xs r old h found. (rising_replaced g.R.Keyed.key r xs h, λ x. member_replaced g.R.Keyed.key r xs old x h found)
