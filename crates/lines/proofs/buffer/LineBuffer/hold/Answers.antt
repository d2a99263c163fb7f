use Rattle.lines.proofs.Held.{held_more}
use Rattle.lines.proofs.buffer.LineBuffer.hold.Goals as goal

pub returns : goal.returns
returns c =
    let e = c.try_push.ensures in
    rw (← c.self.view_is) (held_more (λ held. held.items) c.self.inside.held c.try_push.new.self c.args.byte c.try_push.result e.variant e.ok e.err e.full)
