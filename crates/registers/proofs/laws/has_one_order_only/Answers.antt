use Rattle.registers.proofs.Members.{same_records}
use Rattle.registers.proofs.laws.has_one_order_only.Goals as goal

pub returns : goal.returns
returns g c = same_records g.R.Keyed.key
