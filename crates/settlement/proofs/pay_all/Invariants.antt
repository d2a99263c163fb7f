use Rattle.std.proofs.Common.{ℕ, drop}
use Rattle.settlement.specs.Rules.{total_surplus_of}
use Rattle.settlement.specs.Sheets.{Pays}
use Rattle.settlement.proofs.Turns.{Turned}
use Rattle.settlement.proofs.pay_all.Given as goal

abbrev pub invariant-loop-gap : goal.invariant-loop-gap
invariant-loop-gap l =
    (p q : ℕ) → Pays l.initial.paying p q l.initial.gaps (total_surplus_of l.initial.gaps)
    → Pays l.paying p q l.initial.gaps (total_surplus_of (drop l.gap-index l.initial.gaps)) × Turned p q l.initial.gaps l.gap-index l.gaps
