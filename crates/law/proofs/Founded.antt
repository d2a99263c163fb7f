-- What the checks of an accepted call say of its fact, where y was the year, which has begun, and f the holdings before it.
use Rattle.std.proofs.Common.{◌≡◌, ℕ, ◌+◌, ◌-◌, ◌<◌, ◌≤◌, true, ◌⊎◌, length, Some, None}
use Rattle.curves.specs.declared.obligations.Step.{Step}
use Rattle.curves.specs.Obligations.{sort_at}
use Rattle.rules.specs.declared.records.Account.{Account}
use Rattle.rules.specs.declared.records.Entity.{Entity}
use Rattle.rules.specs.declared.records.Offer.{Offer}
use Rattle.rules.specs.Year.{Year, account_in, entity_in, offer_in, is_open, is_trading, is_closed}
use Rattle.rules.specs.Facts.{Fact, began, opened, certified, relevelled, offered, ended, loaded, closed, settled, nothing}
use Rattle.rules.specs.Judgement.{steps_loaded}

pub record Opening (y : Year) (a : ℕ) : Type 0 where
  pub low : 1 ≤ a
  pub high : a ≤ 64
  pub free : account_in y a ≡ None

pub record Certifying (y : Year) (e : Entity) : Type 0 where
  pub owner : is_open y e.account ≡ true
  pub free : entity_in y e.number ≡ None
  pub place : length y.entities < 64
  pub most : e.level ≤ 1000000

pub record Relevelling (y : Year) (f : ℕ → ℕ) (e : Entity) (l : ℕ) : Type 0 where
  pub found : entity_in y e.number ≡ Some e
  pub most : l ≤ 1000000
  pub covered : e.level - l ≤ f e.account

pub record Offering (y : Year) (f : ℕ → ℕ) (o : Offer) : Type 0 where
  pub trading : is_trading y.stage ≡ true
  pub seller : is_open y o.seller ≡ true
  pub buyer : is_open y o.buyer ≡ true
  pub some : 1 ≤ o.amount
  pub free : offer_in y o.number ≡ None
  pub covered : o.amount ≤ f o.seller

pub record Ending (y : Year) (o : Offer) (a : ℕ) : Type 0 where
  pub trading : is_trading y.stage ≡ true
  pub found : offer_in y o.number ≡ Some o
  pub party : (a ≡ o.seller) ⊎ (a ≡ o.buyer)

-- The step s is the next of its sort for the open account a, and within the year.
pub record Loading (y : Year) (a : ℕ) (s : Step) : Type 0 where
  pub account : Account
  pub found : account_in y a ≡ Some account
  pub next : steps_loaded (sort_at s.sort) account + 1 ≤ y.n

-- A year begins only once, and to report changes nothing.
abbrev pub Founded : Year → (ℕ → ℕ) → Fact → Type 0
Founded y f (began n security) = ⊥
Founded y f (opened a) = Opening y a
Founded y f (certified e) = Certifying y e
Founded y f (relevelled e l) = Relevelling y f e l
Founded y f (offered o) = Offering y f o
Founded y f (ended o a) = Ending y o a
Founded y f (loaded a s) = Loading y a s
Founded y f (closed os) = os ≡ y.offers
Founded y f (settled u v) = is_closed y.stage ≡ true
Founded y f nothing = Unit {0}
