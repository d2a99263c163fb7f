use Rattle.registers.proofs.Members.{lookup_has, lookup_member}
use Rattle.registers.proofs.laws.finds_exactly_its_records.Goals as goal

pub returns : goal.returns
returns g c = λ xs h n x. (lookup_has g.R.Keyed.key n xs x, λ there. lookup_member g.R.Keyed.key n xs x h there.0 there.1)
