use Rattle.std.proofs.Common.{◌≡◌, take, drop}
use Rattle.settlement.specs.Sheets.{Holds}
use Rattle.settlement.specs.Whole.{gaps_fault}
use Rattle.settlement.proofs.enter_all.Given as goal

abbrev pub invariant-loop-gap : goal.invariant-loop-gap
invariant-loop-gap l =
    Holds l.sheet l.fn.prices.shortage l.fn.prices.surplus (take l.gap-index l.gaps) × (gaps_fault l.gap-index (drop l.gap-index l.gaps) ≡ gaps_fault 0 l.gaps)
