-- What every standing offer has: a seller among the accounts, and some guarantees.
use Rattle.std.specs.Prelude.{◌≡◌, ◌≤◌, true, List}
use Rattle.std.specs.List.{AllByRecursion}
use Rattle.ledger.specs.Rules.{known}
use Rattle.rules.specs.declared.records.Offer.{Offer}

abbrev pub Real : List Offer → Type 0
Real os = AllByRecursion (λ o. (known o.seller ≡ true) × (1 ≤ o.amount)) os
