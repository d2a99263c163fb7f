use Rattle.settlement.proofs.Laws.{every_settlement_is_lawful}
use Rattle.settlement.proofs.settlement_is_fair.Goals as goal

pub returns : goal.returns
returns c = every_settlement_is_lawful
