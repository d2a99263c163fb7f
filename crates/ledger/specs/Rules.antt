-- What every ledger answers, and what it holds then. A ledger is what each account holds and the posts left.
use Rattle.std.specs.Prelude.{◌≡◌, ℕ, ◌+◌, ◌-◌, ◌≤◌, Bool, cond, ◌&&◌, Ok, Err, Result, ◌==◌, nat_le}
use Rattle.ledger.specs.declared.fault.LedgerFault.{LedgerFault}
use Rattle.ledger.specs.declared.fault.LedgerFault.TheVariants.{NoSuchAccount, NoAmount, NoPostsLeft, BeyondHolding, PastLimit}

infixr 20 ◌else◌then◌
-- A check in its place: where it fails, its fault is the answer, and no later check is made.
abbrev pub ◌else◌then◌ : {X : Type 0} → Bool → LedgerFault → Result X LedgerFault → Result X LedgerFault
◌else◌then◌ fine fault later = cond fine later (Err fault)

-- The most that an account may hold, in guarantees (the book's own).
abbrev pub limit : ℕ
limit = 99999999

-- The most posts that a ledger may have left.
abbrev pub most_posts : ℕ
most_posts = 65535

-- The accounts are 1 to 64 (the book's own).
abbrev pub known : ℕ → Bool
known account = nat_le 1 account && nat_le account 64

-- An ask answers the holding (refusal 4.1).
abbrev pub asking : (ℕ → ℕ) → ℕ → Result ℕ LedgerFault
asking holding account =
    known account else NoSuchAccount account then
    Ok (holding account)

-- What both posts check first, in this order (refusals 4.1, 4.2, 4.3).
abbrev pub posting : {X : Type 0} → ℕ → ℕ → ℕ → Result X LedgerFault → Result X LedgerFault
posting left account amount own =
    known account else NoSuchAccount account then
    nat_le 1 amount else NoAmount account then
    nat_le 1 left else NoPostsLeft account then
    own

-- A credit answers the holding with the amount added, up to the limit (refusal 4.5).
abbrev pub crediting : (ℕ → ℕ) → ℕ → ℕ → ℕ → Result ℕ LedgerFault
crediting holding left account amount =
    posting left account amount
    (nat_le (holding account + amount) limit else PastLimit account then
    Ok (holding account + amount))

-- A debit answers the holding with the amount taken off, down to nothing (refusal 4.4).
abbrev pub debiting : (ℕ → ℕ) → ℕ → ℕ → ℕ → Result ℕ LedgerFault
debiting holding left account amount =
    posting left account amount
    (nat_le amount (holding account) else BeyondHolding account then
    Ok (holding account - amount))

-- The holdings after a post to the account: only its own entry changes, and only where the post was accepted.
abbrev pub held_after : Result ℕ LedgerFault → ℕ → (ℕ → ℕ) → ℕ → ℕ
held_after (Ok new) account holding k = cond (k == account) new (holding k)
held_after (Err fault) account holding k = holding k

-- The posts left after a post: the same or one lower where it was accepted, as the ledger keeps them, else the same.
abbrev pub PostsFall : Result ℕ LedgerFault → ℕ → ℕ → Type 0
PostsFall (Ok new) before after = (after ≤ before) × (before ≤ after + 1)
PostsFall (Err fault) before after = after ≡ before
