-- Each fact keeps what a history keeps.
use Rattle.std.proofs.Common.{◌≡◌, ℕ, ◌+◌, ◌-◌, ◌≤◌, true, ◌⊎◌, List, [], ◌∷◌, sum_by, Option, sym, refl, ap, subst, inr, ⊎_elim, arith}
use Rattle.std.specs.List.{AllByRecursion}
use Rattle.std.proofs.lemmas.Bool.{both_ways}
use Rattle.std.proofs.ByRecursion.{All-weaker}
use Rattle.std.proofs.lemmas.List.Sums.{sum_by-cons}
use Rattle.registers.proofs.Order.{all_inserted, all_without, all_replaced}
use Rattle.registers.proofs.Members.{all_member, lookup_has}
use Rattle.registers.proofs.Sums.{sum_inserted, sum_without, sum_replaced, length_inserted, length_replaced}
use Rattle.curves.specs.declared.obligations.Step.{Step}
use Rattle.rules.specs.declared.records.Account.{Account}
use Rattle.rules.specs.declared.records.Entity.{Entity}
use Rattle.rules.specs.declared.records.Offer.{Offer}
use Rattle.rules.specs.Records.{entity_number, offer_number, certified_level, offered_amount}
use Rattle.rules.specs.Year.{is_trading, is_closed}
use Rattle.rules.specs.Facts.{Fact, began, opened, certified, relevelled, offered, ended, loaded, closed, settled, nothing, at_level, grown_in, to, returned_to}
use Rattle.law.specs.Law.{year, holds, total, Opened, loads as steps_loaded_for}
use Rattle.law.proofs.Totals.{total_plus, total_zero, total_to, to_other, risen, lower, fallen}
use Rattle.law.proofs.Movements.{sums_more, part_more, closed_ending, closed_other, closed_levels}
use Rattle.law.proofs.Founded.{Opening, Certifying, Relevelling, Offering, Ending, Loading, Founded}
use Rattle.law.proofs.Registers.{tells_none, tells_inserted, tells_without, tells_replaced}
use Rattle.law.proofs.Accounts.{AccountsTell, accounts_opened, accounts_loaded}
use Rattle.law.proofs.Kept.{Kept, Owned, Agreed, closed_not_trading, opened_if, opened_range}

-- A year begins over a ledger that holds nothing.
pub begins : (start : ℕ → ℕ) (n security : ℕ) → ((k : ℕ) → 1 ≤ k → k ≤ 64 → start k ≡ 0) → Kept start (began n security ∷ [])
begins start n security none =
    record {
      begun = refl;
      over = λ _. refl;
      accounts = record { numbered = (tt, tt, tt); so = λ a m. m; listed = λ k o. absurd o; told = λ a m. absurd m; unopened = λ k out. refl };
      entities = tells_none entity_number;
      offers = tells_none offer_number;
      owned = tt;
      agreed = tt;
      few = omega arith;
      part = λ k low high. omega (arith, none k low high);
      levels = omega (arith, total_zero start 64 none);
      sums = refl;
      idle = λ k low high out. none k low high;
    }

-- What the offers return to their sellers, in all, and to an account that sells none.
returned_total : (os : List Offer) → AllByRecursion (λ o. (1 ≤ o.seller) × (o.seller ≤ 64)) os → total (λ k. returned_to k os) 64 ≡ sum_by offered_amount os
returned_total [] h = total_zero (λ k. 0) 64 (λ k l m. refl)
returned_total (o ∷ os) h =
    omega (
      arith,
      returned_total os h.1,
      total_to o.seller o.amount 64 h.0.0 h.0.1,
      sum_by-cons offered_amount o os,
      total_plus (to o.seller o.amount) (λ k. returned_to k os) (λ k. returned_to k (o ∷ os)) 64 (λ k l m. sum_by-cons (λ o. to o.seller o.amount k) o os),
    )

returned_none : (k : ℕ) (os : List Offer) → AllByRecursion (λ o. k ≡ o.seller → ⊥) os → returned_to k os ≡ 0
returned_none k [] h = refl
returned_none k (o ∷ os) h = omega (arith, to_other o.seller o.amount k h.0, returned_none k os h.1, sum_by-cons (λ o. to o.seller o.amount k) o os)

module _ (start : ℕ → ℕ) (fs : List Fact) (kept : Kept start fs) where
  opens : (a : ℕ) → Opening (year fs) a → Kept start (opened a ∷ fs)
  opens a now =
      record {
        begun = kept.begun;
        over = kept.over;
        accounts = accounts_opened (year fs).n (year fs).accounts (λ k. Opened k fs) (λ k. steps_loaded_for k fs) kept.accounts a now.low now.high now.free;
        entities = kept.entities;
        offers = kept.offers;
        owned = All-weaker (Owned (λ k. Opened k fs)) (Owned (λ k. (k ≡ a) ⊎ Opened k fs)) (λ e h. (inr h.0, h.1)) (year fs).entities kept.owned;
        agreed = All-weaker (Agreed (λ k. Opened k fs)) (Agreed (λ k. (k ≡ a) ⊎ Opened k fs)) (λ o h. (inr h.0, inr h.1, h.2)) (year fs).offers kept.agreed;
        few = kept.few;
        part = kept.part;
        levels = kept.levels;
        sums = kept.sums;
        idle = λ k low high out. kept.idle k low high (λ o. out (inr o));
      }

  -- Nothing goes to an account that is not open.
  not_to : (a v k : ℕ) → Opened a fs → (Opened k fs → ⊥) → to a v k ≡ 0
  not_to a v k o out = to_other a v k (λ e. out (subst (λ (i : ℕ). Opened i fs) (sym e) o))

  certifies : (e : Entity) → Certifying (year fs) e → Kept start (certified e ∷ fs)
  certifies e now =
      let es = (year fs).entities in
      let owner : Opened e.account fs = opened_if start fs kept e.account now.owner in
      let range = opened_range start fs kept e.account owner in
      let sum = sum_inserted entity_number certified_level e es in
      record {
        begun = kept.begun;
        over = kept.over;
        accounts = kept.accounts;
        entities = tells_inserted entity_number es _ kept.entities e now.free;
        offers = kept.offers;
        owned = all_inserted entity_number (Owned (λ k. Opened k fs)) e es (owner, now.most) kept.owned;
        agreed = kept.agreed;
        few = omega (arith, length_inserted entity_number e es, now.place);
        part = λ k low high. part_more start (certified e) fs k (omega arith) (kept.part k low high);
        levels = omega (arith, kept.levels, sum, risen (holds start fs) (holds start (certified e ∷ fs)) e.account e.level 64 range.0 range.1 (λ k. refl));
        sums = sums_more (certified e) fs (sum_by certified_level es) _ (omega (arith, sum)) kept.sums;
        idle = λ k low high out. omega (arith, kept.idle k low high out, not_to e.account e.level k owner out);
      }

  relevels : (e : Entity) (l : ℕ) → Relevelling (year fs) (holds start fs) e l → Kept start (relevelled e l ∷ fs)
  relevels e l now =
      let es = (year fs).entities in
      let a = e.account in
      let r = l - e.level in
      let c = e.level - l in
      let there = lookup_has entity_number e.number es e now.found in
      let owner : Opened e.account fs = (all_member (Owned (λ k. Opened k fs)) es e kept.owned there.0).0 in
      let range = opened_range start fs kept e.account owner in
      let raised : ℕ → ℕ = λ k. holds start fs k + to a r k in
      let covered : c ≤ raised a = omega (arith, now.covered) in
      let sum = sum_replaced entity_number certified_level (at_level l e) es e now.found in
      record {
        begun = kept.begun;
        over = kept.over;
        accounts = kept.accounts;
        entities = tells_replaced entity_number es _ kept.entities (at_level l e) e now.found;
        offers = kept.offers;
        owned = all_replaced entity_number (Owned (λ k. Opened k fs)) (at_level l e) es (λ _ _ _. (owner, now.most)) kept.owned;
        agreed = kept.agreed;
        few = omega (arith, length_replaced entity_number (at_level l e) es, kept.few);
        part = λ k low high. part_more start (relevelled e l) fs k (omega (arith, lower raised a c k covered)) (kept.part k low high);
        levels =
            omega (arith, kept.levels, sum, risen (holds start fs) raised a r 64 range.0 range.1 (λ k. refl), fallen raised a c 64 range.0 range.1 covered);
        sums = sums_more (relevelled e l) fs (sum_by certified_level es) _ (omega (arith, sum)) kept.sums;
        idle = λ k low high out. omega (arith, kept.idle k low high out, not_to a r k owner out);
      }

  offers : (o : Offer) → Offering (year fs) (holds start fs) o → Kept start (offered o ∷ fs)
  offers o now =
      let os = (year fs).offers in
      let seller : Opened o.seller fs = opened_if start fs kept o.seller now.seller in
      let range = opened_range start fs kept o.seller seller in
      record {
        begun = kept.begun;
        over = λ e. absurd (both_ways (is_trading (year fs).stage) e now.trading);
        accounts = kept.accounts;
        entities = kept.entities;
        offers = tells_inserted offer_number os _ kept.offers o now.free;
        owned = kept.owned;
        agreed = all_inserted offer_number (Agreed (λ k. Opened k fs)) o os (seller, opened_if start fs kept o.buyer now.buyer, now.some) kept.agreed;
        few = kept.few;
        part = λ k low high. part_more start (offered o) fs k (omega (arith, lower (holds start fs) o.seller o.amount k now.covered)) (kept.part k low high);
        levels =
            omega (
              arith,
              kept.levels,
              sum_inserted offer_number offered_amount o os,
              fallen (holds start fs) o.seller o.amount 64 range.0 range.1 now.covered,
            );
        sums = sums_more (offered o) fs (sum_by certified_level (year fs).entities) _ (omega arith) kept.sums;
        idle = λ k low high out. omega (arith, kept.idle k low high out);
      }

  ends : (o : Offer) (a : ℕ) → Ending (year fs) o a → Kept start (ended o a ∷ fs)
  ends o a now =
      let os = (year fs).offers in
      let there = lookup_has offer_number o.number os o now.found in
      let agreed = all_member (Agreed (λ k. Opened k fs)) os o kept.agreed there.0 in
      let party : Opened a fs
      = ⊎_elim (λ (e : a ≡ o.seller). subst (λ (i : ℕ). Opened i fs) (sym e) agreed.0) (λ (e : a ≡ o.buyer). subst (λ (i : ℕ). Opened i fs) (sym e) agreed.1) now.party in
      let range = opened_range start fs kept a party in
      record {
        begun = kept.begun;
        over = λ e. absurd (both_ways (is_trading (year fs).stage) e now.trading);
        accounts = kept.accounts;
        entities = kept.entities;
        offers = tells_without offer_number os _ kept.offers o.number;
        owned = kept.owned;
        agreed = all_without offer_number (Agreed (λ k. Opened k fs)) o.number os kept.agreed;
        few = kept.few;
        part = λ k low high. part_more start (ended o a) fs k (omega arith) (kept.part k low high);
        levels =
            omega (
              arith,
              kept.levels,
              sum_without offer_number offered_amount o.number os o now.found,
              risen (holds start fs) (holds start (ended o a ∷ fs)) a o.amount 64 range.0 range.1 (λ k. refl),
            );
        sums = sums_more (ended o a) fs (sum_by certified_level (year fs).entities) _ (omega arith) kept.sums;
        idle = λ k low high out. omega (arith, kept.idle k low high out, not_to a o.amount k party out);
      }

  loads : (a : ℕ) (s : Step) → Loading (year fs) a s → Kept start (loaded a s ∷ fs)
  loads a s now =
      record {
        begun = kept.begun;
        over = kept.over;
        accounts =
            subst (λ (o : Option Account). AccountsTell (year fs).n (grown_in o s (year fs).accounts) (λ k. Opened k fs) (λ k. steps_loaded_for k (loaded a s ∷ fs))) (sym now.found)
            (accounts_loaded (year fs).n (year fs).accounts (λ k. Opened k fs) (λ k. steps_loaded_for k fs) kept.accounts a s now.account now.found now.next);
        entities = kept.entities;
        offers = kept.offers;
        owned = kept.owned;
        agreed = kept.agreed;
        few = kept.few;
        part = kept.part;
        levels = kept.levels;
        sums = kept.sums;
        idle = kept.idle;
      }

  closes : (os : List Offer) → os ≡ (year fs).offers → Kept start (closed os ∷ fs)
  closes os all_of_them =
      let agreed : AllByRecursion (Agreed (λ k. Opened k fs)) os = subst (λ (xs : List Offer). AllByRecursion (Agreed (λ k. Opened k fs)) xs) (sym all_of_them) kept.agreed in
      let whole = returned_total os (All-weaker _ _ (λ o h. opened_range start fs kept o.seller h.0) os agreed) in
      record {
        begun = refl;
        over = λ _. refl;
        accounts = kept.accounts;
        entities = kept.entities;
        offers = tells_none offer_number;
        owned = kept.owned;
        agreed = tt;
        few = kept.few;
        part = λ k low high. part_more start (closed os) fs k (omega (arith, closed_ending k os, closed_other k os)) (kept.part k low high);
        levels =
            omega (
              arith,
              kept.levels,
              whole,
              ap (sum_by offered_amount) all_of_them,
              total_plus (holds start fs) (λ k. returned_to k os) (holds start (closed os ∷ fs)) 64 (λ k l m. refl),
            );
        sums = sums_more (closed os) fs (sum_by certified_level (year fs).entities) _ (omega (arith, closed_levels os)) kept.sums;
        idle = λ k low high out.
            let none = returned_none k os (All-weaker _ _ (λ o h e. out (subst (λ (i : ℕ). Opened i fs) (sym e) h.0)) os agreed) in
            omega (arith, kept.idle k low high out, none);
      }

  settles : (u v : ℕ) → is_closed (year fs).stage ≡ true → Kept start (settled u v ∷ fs)
  settles u v now =
      record {
        begun = refl;
        over = λ _. kept.over (closed_not_trading (year fs).stage now);
        accounts = kept.accounts;
        entities = kept.entities;
        offers = kept.offers;
        owned = kept.owned;
        agreed = kept.agreed;
        few = kept.few;
        part = kept.part;
        levels = kept.levels;
        sums = kept.sums;
        idle = kept.idle;
      }

  passes : Kept start (nothing ∷ fs)
  passes =
      record {
        begun = kept.begun;
        over = kept.over;
        accounts = kept.accounts;
        entities = kept.entities;
        offers = kept.offers;
        owned = kept.owned;
        agreed = kept.agreed;
        few = kept.few;
        part = kept.part;
        levels = kept.levels;
        sums = kept.sums;
        idle = kept.idle;
      }

  pub keeps : (f : Fact) → Founded (year fs) (holds start fs) f → Kept start (f ∷ fs)
  keeps (began n security) now = absurd now
  keeps (opened a) now = opens a now
  keeps (certified e) now = certifies e now
  keeps (relevelled e l) now = relevels e l now
  keeps (offered o) now = offers o now
  keeps (ended o a) now = ends o a now
  keeps (loaded a s) now = loads a s now
  keeps (closed os) now = closes os now
  keeps (settled u v) now = settles u v now
  keeps nothing now = passes
