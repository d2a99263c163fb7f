-- Fields in range, and the place of the first that is not.
use Rattle.std.specs.Prelude.{ℕ, ◌+◌, Bool, cond, ◌&&◌, List, [], ◌∷◌, Ok, Err, Result, nat_le}
use Rattle.curves.specs.declared.ranges.OutOfRange.{OutOfRange}

-- A number lies between two ends, both of them included.
abbrev pub within : ℕ → ℕ → ℕ → Bool
within low high x = nat_le low x && nat_le x high

-- Fields are judged in their order: the first that is not fine is refused by its place, and a value stands if all are fine.
abbrev pub judged : {X : Type 0} → ℕ → List Bool → X → Result X OutOfRange
judged place [] value = Ok value
judged place (fine ∷ others) value = cond fine (judged (place + 1) others value) (Err (record { field = place }))
