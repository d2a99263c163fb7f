use Rattle.registers.proofs.Members.{member_without}
use Rattle.registers.proofs.Order.{rising_without}
use Rattle.registers.proofs.laws.loses_exactly_the_removed_record.Goals as goal

pub returns : goal.returns
returns g c = λ xs n h. (rising_without g.R.Keyed.key n xs h, λ x. member_without g.R.Keyed.key n xs x h)
