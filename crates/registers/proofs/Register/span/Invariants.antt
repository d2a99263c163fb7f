use Rattle.std.proofs.Common.{◌-◌, ◌<◌, ◌≤◌, length}
use Rattle.std.specs.List.{AllWithin}
use Rattle.registers.proofs.Register.span.Given as goal

abbrev pub invariant-loop-end : goal.invariant-loop-end
invariant-loop-end g l =
    record {
      within : (l.start ≤ l.end) × (l.end ≤ length l.records);
      begun : l.end < length l.records → 0 < l.end;
      ahead : AllWithin (λ r. g.R.Keyed.key r < l.number) l.records 0 l.start;
    }

abbrev pub decreases-loop-end : goal.decreases-loop-end
decreases-loop-end g l = length l.records - l.end
