-- All marked figures of the rules: levels, obligations and the settlement, as one claim about the definitions.
use Rattle.curves.specs.Figures.{MarkedFigures}
use Rattle.settlement.specs.Marked.{MarkedSettlement}

pub record Marked : Type 0 where
  pub levels_and_obligations : MarkedFigures
  pub settlement : MarkedSettlement
