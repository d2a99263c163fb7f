use Rattle.registers.proofs.Entries.{full_has_each, never_full}
use Rattle.registers.proofs.laws.has_a_place_for_each_number.Goals as goal

pub returns : goal.returns
returns g c = λ n xs h. (λ k. full_has_each g.R.Keyed.key n k xs h, λ r lt le. never_full g.R.Keyed.key n r xs h lt le)
