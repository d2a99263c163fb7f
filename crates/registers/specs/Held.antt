-- What a register holds, and what it answers.
use Rattle.std.specs.Prelude.{ℕ, cond, List, length, is_some, Ok, Err, Result, nat_lt}
use Rattle.places.specs.Held.{items, room as lent}
use Rattle.registers.specs.Rows.{lookup}
use Rattle.registers.specs.declared.Register.{Register}
use Rattle.registers.specs.declared.RegisterFault.{RegisterFault}
use Rattle.registers.specs.declared.RegisterFault.TheVariants.{InUse, Full}

-- The records, in their order.
abbrev pub rows : {R : Type 0} {keyed : _} → Register R keyed → List R
rows g = items g.places

-- How many places are lent.
abbrev pub room : {R : Type 0} {keyed : _} → Register R keyed → ℕ
room g = lent g.places

-- The answer to the entry of r among the records xs: a number in use is refused before a full register.
abbrev pub entering : {R : Type 0} → (R → ℕ) → R → ℕ → List R → Result (Unit {0}) RegisterFault
entering key r places xs = cond (is_some (lookup key (key r) xs)) (Err InUse) (cond (nat_lt (length xs) places) (Ok tt) (Err Full))
