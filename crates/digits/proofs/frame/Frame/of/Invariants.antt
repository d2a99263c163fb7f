use Rattle.std.proofs.Common.{◌≡◌, ◌≤◌, length, take}
use Rattle.std.specs.List.{flat_map}
use Rattle.digits.specs.Frames.{field_bytes}
use Rattle.digits.proofs.frame.Frame.of.Given as goal

abbrev pub invariant-loop-field : goal.invariant-loop-field
invariant-loop-field l = (l.frame ≡ flat_map field_bytes (take l.field-index l.fields)) × (length l.frame ≤ 30)
