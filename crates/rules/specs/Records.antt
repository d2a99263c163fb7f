-- The number of each record, and what a record with an amount is worth.
use Rattle.std.specs.Prelude.{ℕ}
use Rattle.rules.specs.declared.records.Account.{Account}
use Rattle.rules.specs.declared.records.Entity.{Entity}
use Rattle.rules.specs.declared.records.Offer.{Offer}

abbrev pub account_number : Account → ℕ
account_number a = a.number

abbrev pub entity_number : Entity → ℕ
entity_number e = e.number

abbrev pub offer_number : Offer → ℕ
offer_number o = o.number

abbrev pub certified_level : Entity → ℕ
certified_level e = e.level

abbrev pub offered_amount : Offer → ℕ
offered_amount o = o.amount
