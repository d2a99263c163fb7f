-- What balances and movements hold.
use Rattle.std.specs.Prelude.{◌≡◌, ℕ, ◌+◌, ◌-◌, ◌<◌, Bool, true, cond, List, length, take, Ok, fold, Result, ◌==◌, nat_le, slice_index, slice_index_or}
use Rattle.ledger.specs.declared.fault.LedgerFault.{LedgerFault}
use Rattle.ledger.specs.declared.fault.LedgerFault.TheVariants.{BeyondHolding, PastLimit}
use Rattle.ledger.specs.declared.movement.Movement.{Movement}
use Rattle.ledger.specs.declared.movement.Side.{Side}
use Rattle.ledger.specs.declared.movement.Side.TheVariants.{Credit, Debit}
use Rattle.ledger.specs.Rules.{◌else◌then◌, limit, most_posts, known}

-- The balances stand in the order of their accounts, the first at place 0.
abbrev pub balances_holding : List ℕ → ℕ → ℕ
balances_holding balances k = cond (known k) (slice_index balances (k - 1)) 0

-- Balances never run out of posts.
abbrev pub balances_left : List ℕ → ℕ
balances_left balances = most_posts

-- A credit adds its amount, a debit takes it off.
abbrev pub changed : Side → ℕ → ℕ → ℕ
changed Credit held amount = held + amount
changed Debit held amount = held - amount

-- A movement changes what its own account holds.
abbrev pub moving : ℕ → ℕ → Movement → ℕ
moving k held movement = cond (k == movement.account) (changed movement.side held movement.amount) held

-- What the account k holds after the movements, in their order, from nothing.
abbrev pub moved : List Movement → ℕ → ℕ
moved movements k = fold (moving k) 0 movements

-- The holding has room for the change: a credit up to the limit, a debit down to nothing.
abbrev pub covers : Side → ℕ → ℕ → Bool
covers Credit held amount = nat_le (held + amount) limit
covers Debit held amount = nat_le amount held

-- The refusal where there is no room (4.5, 4.4).
abbrev pub refused : Side → ℕ → LedgerFault
refused Credit account = PastLimit account
refused Debit account = BeyondHolding account

-- What a movement answers on what its account holds.
abbrev pub answered : Movement → ℕ → Result ℕ LedgerFault
answered movement held =
    covers movement.side held movement.amount else refused movement.side movement.account then
    Ok (changed movement.side held movement.amount)

-- Each movement found room for its change when it was written.
abbrev pub Sound : List Movement → Type 0
Sound movements =
    (n : ℕ) (d : Movement) → n < length movements →
    covers (slice_index_or movements n d).side (moved (take n movements) (slice_index_or movements n d).account) (slice_index_or movements n d).amount ≡ true
