-- The sheet's refusals.
use Rattle.std.specs.Prelude.{Some, None, Ok, Err, Option, Result}
use Rattle.refusals.specs.declared.Refusal.{Refusal}
use Rattle.settlement.specs.declared.fault.SheetFault.{SheetFault}
use Rattle.settlement.specs.declared.fault.SheetFault.TheVariants.{PriceOutOfRange, GapOutOfRange, Full, NotLeft}

-- Each refusal of layer 5, with its number: the place is the price's field, else 0.
abbrev pub sheet_refusal : SheetFault → Refusal
sheet_refusal (PriceOutOfRange field) = record { layer = 5; number = 1; place = field }
sheet_refusal GapOutOfRange = record { layer = 5; number = 2; place = 0 }
sheet_refusal Full = record { layer = 5; number = 3; place = 0 }
sheet_refusal NotLeft = record { layer = 5; number = 4; place = 0 }

-- A call answers the fault, if there is one, else this value.
abbrev pub answered : {X : Type 0} → Option SheetFault → X → Result X SheetFault
answered None value = Ok value
answered (Some fault) value = Err fault

-- A call leaves what stood before, if there is a fault, else what it changed that to.
abbrev pub left_by : {X : Type 0} → Option SheetFault → X → X → X
left_by None after before = after
left_by (Some fault) after before = before
