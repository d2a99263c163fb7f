-- What lent places hold.
use Rattle.std.specs.Prelude.{ℕ, List, length, take}
use Rattle.places.specs.declared.Places.{Places}

-- The items, in their order.
abbrev pub items : {T : Type 0} → Places T → List T
items p = take p.used p.lent.now

-- How many places are lent.
abbrev pub room : {T : Type 0} → Places T → ℕ
room p = length p.lent.now
