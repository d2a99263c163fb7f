use Rattle.registers.proofs.Sums.{sum_inserted, sum_without, sum_replaced}
use Rattle.registers.proofs.laws.adds_up_after_each_change.Goals as goal

pub returns : goal.returns
returns g c = λ worth xs. (λ r. sum_inserted g.R.Keyed.key worth r xs, λ n. sum_without g.R.Keyed.key worth n xs, λ r. sum_replaced g.R.Keyed.key worth r xs)
