use Rattle.std.proofs.Common.{rules}
use Rattle.places.proofs.Moves.{opens}
use Rattle.places.proofs.Places.insert.Goals as goal

pub returns-clause-after : goal.returns-clause-after
returns-clause-after g c = opens _ _ _ _ _ _ c.requires.at c.push.ensures.after (search rules) c.rotate_right.ensures.after
