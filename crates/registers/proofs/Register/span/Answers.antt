use Rattle.std.proofs.Common.{◌<◌, length, subst, arith}
use Rattle.std.specs.List.{AllWithin}
use Rattle.registers.proofs.Search.{ahead, behind}
use Rattle.registers.proofs.Register.span.Goals as goal

pub loop-end-preserved : goal.loop-end-preserved
loop-end-preserved g c =
    let xs = c.records-records.result.now in
    record {
      within = (omega arith, omega arith);
      begun = λ lt. omega arith;
      ahead = ahead g.R.Keyed.key c.args.number xs (rw c.records-records.ensures.answer c.args.self.now.rising) c.loop-end.end _ (omega arith) c.index-records-end.is (omega (arith, c.number.ensures));
    }

pub returns-else-number-clause-behind : goal.returns-else-number-clause-behind
returns-else-number-clause-behind g c =
    let key = g.R.Keyed.key in
    let n = c.args.number in
    let xs = c.records-records.result.now in
    subst (λ xs. AllWithin (λ r. n < key r) xs c.loop-end.end (length xs)) c.records-records.ensures.answer
    (behind key n xs (rw c.records-records.ensures.answer c.args.self.now.rising) c.loop-end.end _ (omega arith) (omega arith) c.index-records-end.is (omega (arith, c.number.ensures)))
