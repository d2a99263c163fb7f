use Rattle.std.proofs.Common.{take, ap, ◌∙◌}
use Rattle.std.specs.Int.Digits.{number_from_digits}
use Rattle.digits.proofs.Bytes.{from_place}
use Rattle.digits.proofs.numbers.bits_at.Goals as goal

pub returns : goal.returns
returns c =
    let rest = from_place c.args.frame.now c.args.at c.min.result c.min.ensures in
    record {
      answer = c.bits_of.ensures.answer ∙ ap (λ bytes. number_from_digits 256 (take c.args.width bytes)) rest;
      bound = c.bits_of.ensures.bound;
    }
