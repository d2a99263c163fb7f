use Rattle.registers.proofs.Members.{lookup_inserted, lookup_without, lookup_replaced}
use Rattle.registers.proofs.laws.changes_one_number_only.Goals as goal

pub returns : goal.returns
returns g c = λ n xs h. (λ r. lookup_inserted g.R.Keyed.key n r xs, λ m. lookup_without g.R.Keyed.key n m xs h, λ r. lookup_replaced g.R.Keyed.key n r xs)
