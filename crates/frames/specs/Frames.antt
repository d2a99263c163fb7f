-- Frames: a kind byte, then the fields of the call in their order, high byte first.
use Rattle.std.specs.Prelude.{ℕ, ◌+◌, ◌%◌, ◌≤◌, cond, List, length, Ok, Err, Result, ◌==◌, nat_lt, slice_index}
use Rattle.std.proofs.Common.{to_z}
use Rattle.std.specs.Int.{w16, w32}
use Rattle.std.specs.Option.{option_map_or}
use Rattle.digits.specs.declared.hex.HexFault.{HexFault}
use Rattle.digits.specs.declared.hex.HexFault.TheVariants.{WrongCharacter as WrongDigit, OddCount as OddDigits, NoRoom}
use Rattle.digits.specs.Hex.{first_wrong, bytes_of}
use Rattle.digits.specs.Numbers.{field}
use Rattle.rules.specs.declared.calls.Call.{Call}
use Rattle.rules.specs.declared.calls.Call.TheVariants.{Begin as ABegin, Open as AnOpen, Certify as ACertify, Rebalance as ARebalance, Offer as AnOffer, Accept as AnAccept, Recall as ARecall, Load as ALoad, Close as AClose, Settle as ASettle, Report as AReport}
use Rattle.curves.specs.declared.levels.Supply.{Supply}
use Rattle.curves.specs.declared.obligations.Step.{Step}
use Rattle.frames.specs.declared.fault.LineFault.{LineFault}
use Rattle.frames.specs.declared.fault.LineFault.TheVariants.{TooLong, WrongCharacter, OddCount, NoBytes, WrongLength}
use Rattle.frames.specs.declared.kind.Kind.{Kind}
use Rattle.frames.specs.declared.kind.Kind.TheVariants.{Begin, Open, Certify, Rebalance, Offer, Accept, Recall, Load, Close, Settle, Report}
use Rattle.frames.specs.Kinds.{kind_read}

-- A fault of the digits is a fault of their line.
abbrev pub line_fault : HexFault → LineFault
line_fault (WrongDigit index) = WrongCharacter index
line_fault (OddDigits count) = OddCount count
line_fault NoRoom = TooLong

-- A place within a line.
abbrev pub Small : HexFault → Type 0
Small (WrongDigit index) = index ≤ 64
Small (OddDigits count) = count ≤ 64
Small NoRoom = Unit {0}

-- The bytes that the digits of a line write, or why they write none.
abbrev pub frame_of : List ℕ → Result (List ℕ) LineFault
frame_of line =
    cond (nat_lt 64 (length line)) (Err TooLong)
    (option_map_or (λ place. Err (WrongCharacter place)) (first_wrong line)
    (cond (length line % 2 == 1) (Err (OddCount (length line))) (Ok (bytes_of line))))

-- How many bytes a frame of each kind has, the kind byte counted.
abbrev pub frame_length : Kind → ℕ
frame_length Begin = 5
frame_length Open = 2
frame_length Certify = 12
frame_length Rebalance = 10
frame_length Offer = 9
frame_length Accept = 4
frame_length Recall = 4
frame_length Load = 23
frame_length Close = 1
frame_length Settle = 9
frame_length Report = 2

-- A supply's fields from a place on: power, hours, days.
abbrev pub supply_written : ℕ → List ℕ → Supply
supply_written at bytes = record { power = field 4 at bytes; hours = field 1 (at + 4) bytes; days = field 2 (at + 5) bytes }

-- The step of a load; gradients and temperatures are in two's complement.
abbrev pub step_written : List ℕ → Step
step_written bytes =
    record {
      sort = field 1 2 bytes;
      metered = field 4 5 bytes;
      shed = field 4 9 bytes;
      gradient = to_z w32 (field 4 13 bytes);
      coefficient = field 2 17 bytes;
      real = to_z w16 (field 2 19 bytes);
      extreme = to_z w16 (field 2 21 bytes);
    }

-- The call of each kind, by the width and the place of each of its fields.
abbrev pub call_written : Kind → List ℕ → Call
call_written Begin bytes = ABegin (field 2 1 bytes) (field 2 3 bytes)
call_written Open bytes = AnOpen (field 1 1 bytes)
call_written Certify bytes = ACertify (field 2 1 bytes) (field 1 3 bytes) (field 1 4 bytes) (supply_written 5 bytes)
call_written Rebalance bytes = ARebalance (field 2 1 bytes) (supply_written 3 bytes)
call_written Offer bytes = AnOffer (field 2 1 bytes) (field 1 3 bytes) (field 1 4 bytes) (field 4 5 bytes)
call_written Accept bytes = AnAccept (field 2 1 bytes) (field 1 3 bytes)
call_written Recall bytes = ARecall (field 2 1 bytes) (field 1 3 bytes)
call_written Load bytes = ALoad (field 1 1 bytes) (field 2 3 bytes) (step_written bytes)
call_written Close bytes = AClose
call_written Settle bytes = ASettle (field 4 1 bytes) (field 4 5 bytes)
call_written Report bytes = AReport (field 1 1 bytes)

-- The call of a kind, if its frame is as long as frames of the kind are.
abbrev pub call_of_kind : List ℕ → Kind → Result Call LineFault
call_of_kind bytes kind = cond (length bytes == frame_length kind) (Ok (call_written kind bytes)) (Err (WrongLength (length bytes)))

abbrev pub and_then : {A B : Type 0} → Result A LineFault → (A → Result B LineFault) → Result B LineFault
and_then (Ok x) f = f x
and_then (Err fault) f = Err fault

-- The call that bytes write, or why they write none: no bytes, then an unknown kind, then a wrong length.
abbrev pub call_of : List ℕ → Result Call LineFault
call_of bytes = cond (length bytes == 0) (Err NoBytes) (and_then (kind_read (slice_index bytes 0)) (call_of_kind bytes))

-- The call that a line writes, or why it writes none.
abbrev pub heard : List ℕ → Result Call LineFault
heard line = and_then (frame_of line) call_of
