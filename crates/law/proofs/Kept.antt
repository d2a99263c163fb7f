-- What every history keeps from its accepted begin on, and what follows from it at once.
use Rattle.std.proofs.Common.{◌≡◌, ℕ, ◌+◌, ◌≤◌, true, false, List, [], length, is_some, Some, None, sum_by, Option, refl, subst, arith}
use Rattle.std.specs.List.{AllByRecursion}
use Rattle.std.proofs.lemmas.Bool.{true≢false, false≢true}
use Rattle.std.proofs.ByRecursion.{All-weaker, sum_by_le}
use Rattle.registers.specs.Rows.{lookup}
use Rattle.registers.proofs.Members.{all_member, lookup_has}
use Rattle.registers.proofs.Sums.{sum_without}
use Rattle.rules.specs.declared.records.Entity.{Entity}
use Rattle.rules.specs.declared.records.Offer.{Offer}
use Rattle.rules.specs.declared.calls.Stage.{Stage}
use Rattle.rules.specs.declared.calls.Stage.TheVariants.{Blank, Trading, Closed, Settled}
use Rattle.rules.specs.Records.{account_number, entity_number, offer_number, certified_level, offered_amount}
use Rattle.rules.specs.Year.{account_in, offer_in, is_open, is_blank, is_trading, is_closed}
use Rattle.rules.specs.Facts.{Fact}
use Rattle.law.specs.Law.{year, holds, certification, raise, cut, all, under_offers, total, Opened, Levelled, Stands, loads, OwnPart, RegistersTell}
use Rattle.law.proofs.Totals.{total_le}
use Rattle.law.proofs.Registers.{Tells}
use Rattle.law.proofs.Accounts.{AccountsTell, free_not_open}

-- An entity of an open account, at a level that can be certified.
abbrev pub Owned : (ℕ → Type 0) → Entity → Type 0
Owned Open e = Open e.account × (e.level ≤ 1000000)

-- An offer between open accounts, of some guarantees.
abbrev pub Agreed : (ℕ → Type 0) → Offer → Type 0
Agreed Open o = Open o.seller × Open o.buyer × (1 ≤ o.amount)

pub record Kept (start : ℕ → ℕ) (fs : List Fact) : Type 0 where
  pub begun : is_blank (year fs).stage ≡ false
  -- once trading is over no offer stands
  pub over : is_trading (year fs).stage ≡ false → (year fs).offers ≡ []
  -- the registers tell what the facts say
  pub accounts : AccountsTell (year fs).n (year fs).accounts (λ k. Opened k fs) (λ k. loads k fs)
  pub entities : Tells entity_number (year fs).entities (λ e. Levelled e fs)
  pub offers : Tells offer_number (year fs).offers (λ o. Stands o fs)
  pub owned : AllByRecursion (Owned (λ k. Opened k fs)) (year fs).entities
  pub agreed : AllByRecursion (Agreed (λ k. Opened k fs)) (year fs).offers
  pub few : length (year fs).entities ≤ 64
  pub part : (k : ℕ) → 1 ≤ k → k ≤ 64 → OwnPart start fs k
  -- all guarantees are the levels of the entities, and these are what was certified and raised, less what was cut
  pub levels : total (holds start fs) 64 + under_offers fs ≡ sum_by certified_level (year fs).entities
  pub sums : sum_by certified_level (year fs).entities + all cut fs ≡ all certification fs + all raise fs
  -- an account that is not open holds nothing
  pub idle : (k : ℕ) → 1 ≤ k → k ≤ 64 → (Opened k fs → ⊥) → holds start fs k ≡ 0

pub closed_not_trading : (s : Stage) → is_closed s ≡ true → is_trading s ≡ false
closed_not_trading Blank e = absurd (false≢true e)
closed_not_trading Trading e = absurd (false≢true e)
closed_not_trading Closed e = refl
closed_not_trading Settled e = refl

some_found : {X : Type 0} (o : Option X) → is_some o ≡ true → (x : X) × (o ≡ Some x)
some_found None e = absurd (false≢true e)
some_found (Some x) e = (x, refl)

pub none_found : {X : Type 0} (o : Option X) → is_some o ≡ false → o ≡ None
none_found None e = refl
none_found (Some x) e = absurd (true≢false e)

module _ (start : ℕ → ℕ) (fs : List Fact) (kept : Kept start fs) where
  pub opened_if : (k : ℕ) → is_open (year fs) k ≡ true → Opened k fs
  opened_if k e =
      let it = some_found (lookup account_number k (year fs).accounts) e in
      let there = lookup_has account_number k (year fs).accounts it.0 it.1 in
      subst (λ (i : ℕ). Opened i fs) there.1 (kept.accounts.so it.0 there.0)

  pub not_opened_if : (k : ℕ) → account_in (year fs) k ≡ None → Opened k fs → ⊥
  not_opened_if = free_not_open (year fs).n (year fs).accounts (λ k. Opened k fs) (λ k. loads k fs) kept.accounts

  pub opened_range : (k : ℕ) → Opened k fs → (1 ≤ k) × (k ≤ 64)
  opened_range k o =
      let it = kept.accounts.listed k o in
      let low = all_member _ (year fs).accounts it.0 kept.accounts.numbered.1 it.1 in
      let high = all_member _ (year fs).accounts it.0 kept.accounts.numbered.2 it.1 in
      omega (arith, it.2, low, high)

  -- All guarantees are at most those of 64 entities at the highest level.
  all_most : total (holds start fs) 64 + under_offers fs ≤ 64000000
  all_most =
      let each = All-weaker (Owned (λ k. Opened k fs)) (λ e. e.level ≤ 1000000) (λ e h. h.1) (year fs).entities kept.owned in
      omega (arith, kept.levels, kept.few, sum_by_le certified_level 1000000 (year fs).entities each)

  pub held_most : (k : ℕ) → 1 ≤ k → k ≤ 64 → holds start fs k + under_offers fs ≤ 64000000
  held_most k low high = omega (arith, all_most, total_le (holds start fs) 64 k low high)

  pub offer_most : (i : ℕ) (o : Offer) → offer_in (year fs) i ≡ Some o → o.amount ≤ under_offers fs
  offer_most i o found = omega (arith, sum_without offer_number offered_amount i (year fs).offers o found)

  pub registers_tell : RegistersTell fs
  registers_tell =
      record {
        accounts_rise = kept.accounts.numbered.0;
        entities_rise = kept.entities.rise;
        offers_rise = kept.offers.rise;
        opened_listed = kept.accounts.so;
        listed_opened = kept.accounts.listed;
        levelled_listed = kept.entities.listed;
        listed_levelled = kept.entities.so;
        stands_listed = kept.offers.listed;
        listed_stands = kept.offers.so;
      }
