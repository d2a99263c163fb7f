use Rattle.law.proofs.Lawful.{lawful}
use Rattle.law.proofs.law_stands.Goals as goal

pub returns : goal.returns
returns c = lawful
