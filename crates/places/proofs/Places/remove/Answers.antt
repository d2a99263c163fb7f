use Rattle.std.proofs.Common.{rules}
use Rattle.places.proofs.Moves.{closes}
use Rattle.places.proofs.Places.remove.Goals as goal

pub returns-clause-after : goal.returns-clause-after
returns-clause-after g c = closes _ _ _ _ c.requires.at (search rules) (search rules) (search rules)
