-- The year as it stands: what a call is judged by, beside its own fields and the ledger.
use Rattle.std.specs.Prelude.{ℕ, Bool, true, false, List, [], is_some, Option}
use Rattle.registers.specs.Rows.{lookup}
use Rattle.rules.specs.declared.records.Account.{Account}
use Rattle.rules.specs.declared.records.Entity.{Entity}
use Rattle.rules.specs.declared.records.Offer.{Offer}
use Rattle.rules.specs.declared.calls.Stage.{Stage}
use Rattle.rules.specs.declared.calls.Stage.TheVariants.{Blank, Trading, Closed, Settled}
use Rattle.rules.specs.Records.{account_number, entity_number, offer_number}

-- The stage, the half-hours n and the security coefficient that begin set, the two prices that settle set,
-- and the records of the registers, each in rising order of number.
pub record Year : Type 0 where
  pub stage : Stage
  pub n : ℕ
  pub security : ℕ
  pub shortage : ℕ
  pub surplus : ℕ
  pub accounts : List Account
  pub entities : List Entity
  pub offers : List Offer

-- A new book.
abbrev pub blank_year : Year
blank_year = record { stage = Blank; n = 0; security = 0; shortage = 0; surplus = 0; accounts = []; entities = []; offers = [] }

-- An open account, an entity and a standing offer, by number.
abbrev pub account_in : Year → ℕ → Option Account
account_in y a = lookup account_number a y.accounts

abbrev pub entity_in : Year → ℕ → Option Entity
entity_in y i = lookup entity_number i y.entities

abbrev pub offer_in : Year → ℕ → Option Offer
offer_in y o = lookup offer_number o y.offers

abbrev pub is_open : Year → ℕ → Bool
is_open y a = is_some (account_in y a)

abbrev pub is_blank : Stage → Bool
is_blank Blank = true
is_blank Trading = false
is_blank Closed = false
is_blank Settled = false

abbrev pub is_trading : Stage → Bool
is_trading Blank = false
is_trading Trading = true
is_trading Closed = false
is_trading Settled = false

abbrev pub is_closed : Stage → Bool
is_closed Blank = false
is_closed Trading = false
is_closed Closed = true
is_closed Settled = false

abbrev pub is_settled : Stage → Bool
is_settled Blank = false
is_settled Trading = false
is_settled Closed = false
is_settled Settled = true
