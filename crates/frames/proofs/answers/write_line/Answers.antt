use Rattle.std.proofs.Common.{ℕ, List, length, ap, ◌∙◌, arith}
use Rattle.std.proofs.lemmas.List.{length-take, length-drop}
use Rattle.frames.specs.Answers.{line_of, over}
use Rattle.frames.proofs.Writing.{line_put, line_length}
use Rattle.frames.proofs.answers.write_line.Goals as goal

pub returns : goal.returns
returns c =
    let bytes = c.bytes-bytes.result.now in
    let same = c.bytes-bytes.ensures.answer in
    record {
      after = line_put c.args.answers.now bytes _ c.write_hex.new.out c.args.at c.write_hex.result (omega (arith, c.bytes-bytes.ensures.bound)) (simp (length-take, length-drop) (omega (arith, c.bytes-bytes.ensures.bound))) c.write_hex.ensures.answer c.write_hex.ensures.after ∙ ap (λ (b : List ℕ). over c.args.answers.now c.args.at (line_of b)) same;
      answer = line_length bytes ∙ ap (λ (b : List ℕ). length (line_of b)) same;
      bound = omega (arith, c.bytes-bytes.ensures.bound);
    }
