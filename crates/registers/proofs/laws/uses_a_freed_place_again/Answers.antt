use Rattle.registers.proofs.Entries.{freed_place}
use Rattle.registers.proofs.laws.uses_a_freed_place_again.Goals as goal

pub returns : goal.returns
returns g c = freed_place g.R.Keyed.key
