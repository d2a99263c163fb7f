-- What an answer line says of each refusal of a line: its layer, its number and its place.
use Rattle.refusals.specs.declared.Refusal.{Refusal}
use Rattle.rules.specs.Refusals.{refusal_of}
use Rattle.frames.specs.declared.fault.LineFault.{LineFault}
use Rattle.frames.specs.declared.fault.LineFault.TheVariants.{TooLong, WrongCharacter, OddCount, NoBytes, UnknownKind, WrongLength, NoSpace, Registry}

abbrev pub line_refusal : LineFault → Refusal
line_refusal TooLong = record { layer = 1; number = 1; place = 64 }
line_refusal (WrongCharacter index) = record { layer = 1; number = 2; place = index }
line_refusal (OddCount count) = record { layer = 1; number = 3; place = count }
line_refusal NoBytes = record { layer = 2; number = 1; place = 0 }
line_refusal (UnknownKind kind) = record { layer = 2; number = 2; place = kind }
line_refusal (WrongLength found) = record { layer = 2; number = 3; place = found }
line_refusal NoSpace = record { layer = 2; number = 4; place = 0 }
line_refusal (Registry fault) = refusal_of fault
