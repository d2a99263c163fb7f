use Rattle.std.proofs.Common.{ℕ, List, sym, ap, ◌∙◌, subst}
use Rattle.registry.specs.Model.{year_in}
use Rattle.lines.proofs.Answering.{UpTo, at_first, up_to_byte, up_to_line, was_read, same_parts, moved_to}
use Rattle.lines.proofs.block.answer_block.Goals as goal
use Rattle.lines.proofs.block.answer_block.Goals.{then-byte-eq-LINE_END+in-Ok, else-byte-eq-LINE_END}

pub loop-taken-init : goal.loop-taken-init
loop-taken-init g c = at_first _ c.args.block.now c.args.answers.now

pub loop-taken-preserved : goal.loop-taken-preserved
loop-taken-preserved g c = elim c.if-byte-eq-LINE_END.branch [
  | then-byte-eq-LINE_END+in-Ok w ↦
      (let m = g.L.Ledger in
      let now_so = subst (λ (line : List ℕ). UpTo _ c.args.block.now c.loop-taken.taken (record { line = line; year = year_in c.loop-taken.book; holds = g.L.Ledger.holding c.loop-taken.ledger; posts = g.L.Ledger.posts c.loop-taken.ledger }) c.args.answers.now c.loop-taken.answers c.loop-taken.written) (sym w.line.ensures.answer) c.loop-taken.invariant in
      let read = was_read _ w.line.result.now _ _ _ _ c.loop-taken.written w.in-Ok.length w.read_line.result _ _ _ _ _ _ w.read_line.ensures.answer w.in-Ok.is in
      let next = up_to_line _ c.args.block.now c.args.answers.now _ _ c.loop-taken.answers w.read_line.new.answers w.line.result.now w.clear.new.self c.loop-taken.taken c.loop-taken.written w.in-Ok.length w.read_line.result _ _ _ _ _ _ c.loop-taken-test.true w.if-byte-eq-LINE_END.true w.clear.ensures w.in-Ok.ensures.bound w.read_line.auto.answers read w.in-Ok.is now_so in
      moved_to _ _ _ c.args.block.now c.args.answers.now _ _ _ _ _ (same_parts _ _ _ _ _ _ _ _ (w.buffer-is) (ap year_in w.book-is) (ap m.holding w.ledger-is) (ap m.posts w.ledger-is)) w.answers-is w.written-is next)
  | else-byte-eq-LINE_END w ↦
      (let m = g.L.Ledger in
      let next = up_to_byte _ _ c.args.block.now c.args.answers.now c.loop-taken.answers c.loop-taken.taken c.loop-taken.written c.loop-taken-test.true w.if-byte-eq-LINE_END.false c.loop-taken.invariant in
      moved_to _ _ _ c.args.block.now c.args.answers.now _ _ _ _ _ (same_parts _ _ _ _ _ _ _ _ (w.buffer-is ∙ w.hold.ensures) (ap year_in w.book-is) (ap m.holding w.ledger-is) (ap m.posts w.ledger-is)) w.answers-is w.written-is next)
]
