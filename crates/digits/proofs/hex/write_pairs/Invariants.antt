use Rattle.std.proofs.Common.{◌≡◌, ◌*◌, ◌++◌, take, drop}
use Rattle.digits.specs.Hex.{digits}
use Rattle.digits.proofs.hex.write_pairs.Given as goal

abbrev pub invariant-loop-i : goal.invariant-loop-i
invariant-loop-i l = l.out ≡ digits (take l.i l.bytes) ++ drop (2 * l.i) l.initial.out
