-- The kinds of calls, by the byte that begins a frame.
use Rattle.std.specs.Prelude.{ℕ, cond, List, [], ◌∷◌, Ok, Err, Result, nat_lt, slice_index_or}
use Rattle.rules.specs.declared.calls.Call.{Call}
use Rattle.rules.specs.declared.calls.Call.TheVariants.{Begin as ABegin, Open as AnOpen, Certify as ACertify, Rebalance as ARebalance, Offer as AnOffer, Accept as AnAccept, Recall as ARecall, Load as ALoad, Close as AClose, Settle as ASettle, Report as AReport}
use Rattle.frames.specs.declared.fault.LineFault.{LineFault}
use Rattle.frames.specs.declared.fault.LineFault.TheVariants.{UnknownKind}
use Rattle.frames.specs.declared.kind.Kind.{Kind}
use Rattle.frames.specs.declared.kind.Kind.TheVariants.{Begin, Open, Certify, Rebalance, Offer, Accept, Recall, Load, Close, Settle, Report}

-- The kinds in the order of their bytes, which begin at 0.
abbrev pub kinds : List Kind
kinds = Begin ∷ Open ∷ Certify ∷ Rebalance ∷ Offer ∷ Accept ∷ Recall ∷ Load ∷ Close ∷ Settle ∷ Report ∷ []

-- The kind of a byte from 0 to 10; any other byte is refused.
abbrev pub kind_read : ℕ → Result Kind LineFault
kind_read byte = cond (nat_lt byte 11) (Ok (slice_index_or kinds byte Begin)) (Err (UnknownKind byte))

-- The kind of each call.
abbrev pub kind_of : Call → Kind
kind_of (ABegin _ _) = Begin
kind_of (AnOpen _) = Open
kind_of (ACertify _ _ _ _) = Certify
kind_of (ARebalance _ _) = Rebalance
kind_of (AnOffer _ _ _ _) = Offer
kind_of (AnAccept _ _) = Accept
kind_of (ARecall _ _) = Recall
kind_of (ALoad _ _ _) = Load
kind_of AClose = Close
kind_of (ASettle _ _) = Settle
kind_of (AReport _) = Report

-- The byte of each kind.
abbrev pub kind_byte : Kind → ℕ
kind_byte Begin = 0
kind_byte Open = 1
kind_byte Certify = 2
kind_byte Rebalance = 3
kind_byte Offer = 4
kind_byte Accept = 5
kind_byte Recall = 6
kind_byte Load = 7
kind_byte Close = 8
kind_byte Settle = 9
kind_byte Report = 10

-- The kind byte of a call.
abbrev pub kind_of_call : Call → ℕ
kind_of_call call = kind_byte (kind_of call)
