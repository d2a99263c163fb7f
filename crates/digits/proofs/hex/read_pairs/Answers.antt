use Rattle.std.proofs.Common.{◌≡◌, ◌<◌, ◌/◌, length, refl, arith}
use Rattle.std.proofs.lemmas.List.{take_all}
use Rattle.digits.proofs.Pairs.{read_more, digit_at, bytes_of_pairs}
use Rattle.digits.proofs.hex.read_pairs.Goals as goal

pub byte_of-requires : goal.byte_of-requires
byte_of-requires c =
    let lt : c.loop-i.i < length c.args.line.now / 2 = omega arith in
    record {
      high = digit_at c.args.line.now c.as_chunks.result.0.now c.loop-i.i 0 c.requires.sound c.as_chunks.ensures.front lt (omega arith);
      low = digit_at c.args.line.now c.as_chunks.result.0.now c.loop-i.i 1 c.requires.sound c.as_chunks.ensures.front lt (omega arith);
    }

pub loop-i-preserved : goal.loop-i-preserved
loop-i-preserved c =
    read_more c.as_chunks.result.0.now c.args.out.now c.loop-i.out c.loop-i.i c.byte_of.result c.loop-i-test.true (omega arith) c.loop-i.invariant c.byte_of.ensures

pub returns : goal.returns
returns c =
    let n : c.loop-i.i ≡ length c.args.line.now / 2 = omega arith in
    let all = take_all c.loop-i.i c.as_chunks.result.0.now (omega arith) in
    let read = bytes_of_pairs c.args.line.now (length c.args.line.now / 2) refl in
    let front = c.as_chunks.ensures.front in
    cc
