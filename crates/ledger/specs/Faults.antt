use Rattle.refusals.specs.declared.Refusal.{Refusal}
use Rattle.ledger.specs.declared.fault.LedgerFault.{LedgerFault}
use Rattle.ledger.specs.declared.fault.LedgerFault.TheVariants.{NoSuchAccount, NoAmount, NoPostsLeft, BeyondHolding, PastLimit}

-- Each refusal of a ledger, 4.1 to 4.5: its layer, its number after the point, and the account that it was about.
abbrev pub refusal : LedgerFault → Refusal
refusal (NoSuchAccount account) = record { layer = 4; number = 1; place = account }
refusal (NoAmount account) = record { layer = 4; number = 2; place = account }
refusal (NoPostsLeft account) = record { layer = 4; number = 3; place = account }
refusal (BeyondHolding account) = record { layer = 4; number = 4; place = account }
refusal (PastLimit account) = record { layer = 4; number = 5; place = account }
