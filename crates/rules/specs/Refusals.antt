-- What an answer line says of each refusal: its layer, its number and its place.
use Rattle.std.specs.Prelude.{ℕ}
use Rattle.refusals.specs.declared.Refusal.{Refusal}
use Rattle.ledger.specs.Faults.{refusal}
use Rattle.registers.specs.declared.RegisterFault.{RegisterFault}
use Rattle.registers.specs.declared.RegisterFault.TheVariants.{InUse as Taken, Full}
use Rattle.rules.specs.declared.faults.RegistryFault.{RegistryFault}
use Rattle.rules.specs.declared.faults.RegistryFault.TheVariants.{WrongStage, OutOfRange, NotOpen, InUse, Unknown, RegisterFull, WrongParty, OutOfTurn, Incomplete, PostsShort, NotEmpty, Ledger}

abbrev pub of_the_book : ℕ → ℕ → Refusal
of_the_book number place = record { layer = 3; number = number; place = place }

abbrev pub refusal_of : RegistryFault → Refusal
refusal_of WrongStage = of_the_book 1 0
refusal_of (OutOfRange field) = of_the_book 2 field
refusal_of (NotOpen field) = of_the_book 3 field
refusal_of (InUse field) = of_the_book 4 field
refusal_of (Unknown field) = of_the_book 5 field
refusal_of RegisterFull = of_the_book 6 0
refusal_of (WrongParty field) = of_the_book 7 field
refusal_of (OutOfTurn field) = of_the_book 8 field
refusal_of (Incomplete account) = of_the_book 9 account
refusal_of PostsShort = of_the_book 10 0
refusal_of (NotEmpty account) = of_the_book 11 account
refusal_of (Ledger fault) = refusal fault

-- A register's refusal, in a call that has the number of its record first.
abbrev pub of_the_register : RegisterFault → RegistryFault
of_the_register Taken = InUse 1
of_the_register Full = RegisterFull
