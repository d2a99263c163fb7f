use Rattle.std.proofs.Common.{◌≤◌, length, ◌+◌, arith, ◌≡◌}
use Rattle.std.proofs.lemmas.Bool.Decides.{nat_tests}
use Rattle.digits.proofs.Zeros.{long_as_before, zeros_follow}
use Rattle.digits.proofs.frame.Frame.extend.Goals as goal

pub invariant_of-self : goal.invariant_of-self
invariant_of-self c =
    let fits : c.self.inside.len + length c.args.more.now ≤ 30 = grind (arith, nat_tests) in
    let part : length c.copy_from_slice.new.self ≡ length c.args.more.now = grind (arith) in (
      fits,
      (
        long_as_before c.self.inside.bytes c.copy_from_slice.new.self c.self.inside.len (length c.args.more.now) c.self.invariant.1.0 part fits,
        zeros_follow c.self.inside.bytes c.copy_from_slice.new.self c.self.inside.len (length c.args.more.now) c.self.invariant.1.0 part fits c.self.invariant.1.1,
      ),
    )
