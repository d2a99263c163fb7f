use Rattle.registry.specs.Model.{year_in}
use Rattle.lines.proofs.Answering.{UpTo}
use Rattle.lines.proofs.block.answer_block.Given as goal

abbrev pub invariant-loop-taken : goal.invariant-loop-taken
invariant-loop-taken g l =
    let m = g.L.Ledger in
    UpTo (record { line = l.initial.buffer; year = year_in l.initial.book; holds = m.holding l.initial.ledger; posts = m.posts l.initial.ledger }) l.block l.taken (record { line = l.buffer; year = year_in l.book; holds = m.holding l.ledger; posts = m.posts l.ledger }) l.initial.answers l.answers l.written
