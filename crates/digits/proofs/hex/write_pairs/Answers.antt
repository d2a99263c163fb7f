use Rattle.digits.proofs.Pairs.{write_more}
use Rattle.digits.proofs.hex.write_pairs.Goals as goal

pub loop-i-preserved : goal.loop-i-preserved
loop-i-preserved c =
    write_more c.args.bytes.now c.args.out.now c.loop-i.out c.loop-i.i c.pair_of.result c.requires c.loop-i-test.true c.loop-i.invariant c.pair_of.ensures
