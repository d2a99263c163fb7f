use Rattle.std.proofs.Common.{length, arith}
use Rattle.digits.proofs.Pairs.{accepted, read_front}
use Rattle.digits.proofs.hex.read_hex.Goals as goal

pub read_pairs-requires : goal.read_pairs-requires
read_pairs-requires c =
    let a = accepted c.args.line.now (length c.args.out.now) c.in_ok-count.count c.in_ok-count.ensures in
    record { sound = a.0; room = omega arith }

pub returns : goal.returns
returns c =
    let a = accepted c.args.line.now (length c.args.out.now) c.in_ok-count.count c.in_ok-count.ensures in
    record {
      answer = c.in_ok-count.ensures;
      bound = a.2;
      front = read_front c.args.line.now c.args.out.now c.read_pairs.new.out c.in_ok-count.count a.1 c.read_pairs.ensures;
      after = c.read_pairs.ensures;
    }
