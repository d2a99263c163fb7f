use Rattle.std.proofs.Common.{◌≡◌, ◌-◌, ◌≤◌}
use Rattle.rules.specs.Judgement.{lowest_holder}
use Rattle.postings.proofs.lowest_holder.Given as goal

abbrev pub invariant-loop-account : goal.invariant-loop-account
invariant-loop-account g l =
    (l.account ≤ 65) × (lowest_holder (g.L.Ledger.holding l.ledger) (65 - l.account) l.account ≡ lowest_holder (g.L.Ledger.holding l.ledger) 64 1)
