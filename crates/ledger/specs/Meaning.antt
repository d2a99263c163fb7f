-- What a ledger of movements means, read off its places.
use Rattle.std.specs.Prelude.{ℕ, ◌-◌, min, length, Ok, Err, Result}
use Rattle.places.specs.Held.{items, room}
use Rattle.ledger.specs.declared.fault.LedgerFault.{LedgerFault}
use Rattle.ledger.specs.declared.movements.Movements.{Movements}
use Rattle.ledger.specs.Rules.{most_posts}
use Rattle.ledger.specs.Holdings.{moved}

-- The holdings by the movements in the used places.
abbrev pub movements_holding : Movements → ℕ → ℕ
movements_holding ledger = moved (items ledger.posts)

-- Each place takes one post, and no place past the first 65,535 is used.
abbrev pub movements_left : Movements → ℕ
movements_left ledger = min (room ledger.posts) most_posts - length (items ledger.posts)

-- An accepted post uses up one place, a refused one none.
abbrev pub places_used : Result ℕ LedgerFault → ℕ
places_used (Ok new) = 1
places_used (Err fault) = 0
