use Rattle.std.proofs.Common.{◌≡◌, ◌++◌, map, take, drop}
use Rattle.digits.proofs.Pairs.{byte}
use Rattle.digits.proofs.hex.read_pairs.Given as goal

abbrev pub invariant-loop-i : goal.invariant-loop-i
invariant-loop-i l = l.out ≡ map byte (take l.i l.pairs) ++ drop l.i l.initial.out
