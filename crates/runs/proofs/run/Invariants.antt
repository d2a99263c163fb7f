use Rattle.std.proofs.Common.{◌≡◌, ◌≤◌, length}
use Rattle.rules.specs.Year.{blank_year}
use Rattle.registry.specs.Model.{year_in}
use Rattle.runs.specs.Runs.{history, Ran}
use Rattle.runs.proofs.run.Given as goal

abbrev pub invariant-loop-i : goal.invariant-loop-i
invariant-loop-i g l =
    let m = g.L.Ledger in
    (l.i ≤ l.count) × (length l.outcomes ≡ length l.initial.outcomes) × (year_in l.initial.book ≡ blank_year → Ran (m.holding l.initial.ledger) (history l.i l.calls l.outcomes) (year_in l.book) (m.holding l.ledger) (m.posts l.ledger))
