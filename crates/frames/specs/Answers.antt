-- Answer lines: 00, the kind and the results of an accepted call, or the layer, the number and the place of a refusal.
use Rattle.std.specs.Prelude.{ℕ, ◌+◌, List, [], ◌∷◌, ◌++◌, length, take, drop, Ok, Err, Result}
use Rattle.digits.specs.declared.frame.Field.{Field}
use Rattle.digits.specs.declared.frame.Field.TheVariants.{Byte, Two, Four, Eight, SignedFour, SignedEight}
use Rattle.digits.specs.Hex.{digits}
use Rattle.digits.specs.Frames.{composed}
use Rattle.refusals.specs.declared.Refusal.{Refusal}
use Rattle.rules.specs.declared.calls.Reply.{Reply}
use Rattle.rules.specs.declared.calls.Reply.TheVariants.{Done, Level, Holding, Returned, Figures, Stated}
use Rattle.frames.specs.declared.fault.LineFault.{LineFault}
use Rattle.frames.specs.Faults.{line_refusal}

-- The results of an accepted call, by their widths.
abbrev pub results : Reply → List Field
results Done = []
results (Level level) = Four level ∷ []
results (Holding holding) = Four holding ∷ []
results (Returned offers) = Two offers ∷ []
results (Figures s) = Four s.paid_price ∷ Eight s.collected ∷ Eight s.paid ∷ Eight s.balance ∷ []
results (Stated s) = Four s.holding ∷ Four s.obligation ∷ SignedFour s.gap ∷ SignedEight s.amount ∷ []

abbrev pub reply_bytes : ℕ → Reply → List ℕ
reply_bytes kind reply = composed (Byte 0 ∷ Byte kind ∷ results reply)

abbrev pub refusal_bytes : Refusal → List ℕ
refusal_bytes r = composed (Byte r.layer ∷ Byte r.number ∷ Two r.place ∷ [])

-- An accepted call by its kind, or a refusal.
abbrev pub answer_bytes : Result (ℕ × Reply) LineFault → List ℕ
answer_bytes (Ok said) = reply_bytes said.0 said.1
answer_bytes (Err fault) = refusal_bytes (line_refusal fault)

-- The digits of bytes, and byte 10.
abbrev pub line_of : List ℕ → List ℕ
line_of bytes = digits bytes ++ (10 ∷ [])

-- A space with a line written over it from a place on; what stands around the line is as it was.
abbrev pub over : List ℕ → ℕ → List ℕ → List ℕ
over space at line = take at space ++ (line ++ drop (at + length line) space)
