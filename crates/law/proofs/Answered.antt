-- Every answer is as the law says of it, and an accepted call has founded its fact.
use Rattle.std.proofs.Common.{◌≡◌, ℕ, ◌+◌, ◌≤◌, true, not, eqb, ltb, leb, ◌⊎◌, List, [], ◌∷◌, length, is_some, Some, None, Ok, Option, sym, refl, ap, ◌∙◌, inl, inr, arith}
use Rattle.std.specs.List.{AllByRecursion}
use Rattle.std.proofs.lemmas.Bool.{both_ways, and_parts, and_from, not-true, leb-true, le-leb, ltb-true, eqb-true, cond-true}
use Rattle.registers.proofs.Members.{all_member, lookup_has}
use Rattle.ledger.specs.declared.fault.LedgerFault.TheVariants.{PastLimit}
use Rattle.ledger.specs.Rules.{limit, known}
use Rattle.curves.specs.declared.obligations.Step.{Step}
use Rattle.curves.specs.declared.levels.Supply.{Supply}
use Rattle.curves.specs.Levels.{guarantees, method_at}
use Rattle.curves.specs.Obligations.{sort_at}
use Rattle.curves.proofs.Charts.{guarantees_most}
use Rattle.rules.specs.declared.records.Account.{Account}
use Rattle.rules.specs.declared.records.Entity.{Entity}
use Rattle.rules.specs.declared.records.Offer.{Offer}
use Rattle.rules.specs.declared.calls.Call.{Call}
use Rattle.rules.specs.declared.calls.Call.TheVariants.{Begin, Open, Certify, Rebalance, Offer as MakeOffer, Accept, Recall, Load, Close, Settle, Report}
use Rattle.rules.specs.declared.calls.Reply.{Reply}
use Rattle.rules.specs.declared.calls.Reply.TheVariants.{Done, Holding}
use Rattle.rules.specs.declared.faults.RegistryFault.TheVariants.{WrongStage, NotOpen, InUse, RegisterFull, WrongParty, OutOfTurn, PostsShort, Ledger, Incomplete}
use Rattle.rules.specs.Records.{entity_number, offer_number}
use Rattle.rules.specs.Year.{account_in, entity_in, offer_in, is_open, is_blank, is_trading, is_closed}
use Rattle.rules.specs.Facts.{Fact, relevelled, ended, did, rebalanced, ended_for}
use Rattle.rules.specs.Settling.{first_incomplete}
use Rattle.rules.specs.Judgement.{◌else◌, in_range, needs, fields, rebalancing, ending, steps_loaded, loading, first_without_room, reporting, ruling, judge}
use Rattle.law.specs.Law.{year, holds, under_offers, Opened, Levelled, Stands, AcceptedSo}
use Rattle.law.proofs.Says.{Says, InRange, says_if, says_in_range, says_walk, says_unless, says_credited, says_debited, says_levelled}
use Rattle.law.proofs.Founded.{Founded}
use Rattle.law.proofs.Settles.{settling, reported}
use Rattle.law.proofs.Kept.{Kept, Owned, Agreed, none_found, closed_not_trading, opened_range, held_most, offer_most}

-- An accepted call founds its fact, and its reply w is as the law says.
abbrev pub Said : (ℕ → ℕ) → List Fact → Call → Reply → Type 0
Said start fs c w = Founded (year fs) (holds start fs) (did (year fs) c) × AcceptedSo start fs c w

-- The answer once the stage and the ranges are passed says so.
abbrev Ruled : (ℕ → ℕ) → List Fact → ℕ → Call → Type 0
Ruled start fs m c = Says (Said start fs c) (ruling (year fs) (holds start fs) m c)

-- So of an entity worked out again, and of an offer ended by a party that it names, whatever was found.
abbrev Relevels : (ℕ → ℕ) → List Fact → ℕ → Supply → Fact → Type 0
Relevels start fs i supply fact =
    Founded (year fs) (holds start fs) fact × ((e : Entity) × Levelled e fs × (e.number ≡ i) × (fact ≡ relevelled e (guarantees e.method supply)))

abbrev Ends : (ℕ → ℕ) → List Fact → (Offer → ℕ) → ℕ → ℕ → Fact → Type 0
Ends start fs party i a fact = Founded (year fs) (holds start fs) fact × ((o : Offer) × Stands o fs × (o.number ≡ i) × (party o ≡ a) × (fact ≡ ended o a))

known_range : (a : ℕ) → known a ≡ true → (1 ≤ a) × (a ≤ 64)
known_range a e = let both = and_parts (leb 1 a) (leb a 64) e in (leb-true 1 a both.0, leb-true a 64 both.1)

range_known : (a : ℕ) → 1 ≤ a → a ≤ 64 → known a ≡ true
range_known a low high = and_from (leb 1 a) (leb a 64) (le-leb 1 a low) (le-leb a 64 high)

module _ (start : ℕ → ℕ) (fs : List Fact) (kept : Kept start fs) where
  opens : (m a : ℕ) → known a ≡ true → Ruled start fs m (Open a)
  opens m a is_known =
      let range = known_range a is_known in
      says_walk (Said start fs (Open a)) (not (is_open (year fs) a) else InUse 1 ∷ []) (Ok Done) (tt, tt)
      (λ passed. (record { low = range.0; high = range.1; free = none_found (account_in (year fs) a) (not-true (is_open (year fs) a) passed.0) }, tt))

  certifies : (m i a method : ℕ) (supply : Supply) → known a ≡ true → supply.power ≤ 99999999 → Ruled start fs m (Certify i a method supply)
  certifies m i a method supply is_known high =
      let range = known_range a is_known in
      let level = guarantees (method_at method) supply in
      let most = guarantees_most (method_at method) supply high in
      says_walk _ (is_open (year fs) a else NotOpen 2 ∷ not (is_some (entity_in (year fs) i)) else InUse 1 ∷ ltb (length (year fs).entities) 64 else RegisterFull ∷ []) _
      (tt, (tt, (tt, tt)))
      (λ passed.
      says_levelled (Said start fs (Certify i a method supply)) (holds start fs) m a 0 level is_known (omega (arith, held_most start fs kept a range.0 range.1))
      (λ _. (
        record {
          owner = passed.0;
          free = none_found (entity_in (year fs) i) (not-true (is_some (entity_in (year fs) i)) passed.1.0);
          place = ltb-true (length (year fs).entities) 64 passed.1.1.0;
          most = most;
        },
        tt,
      )))

  rebalances : (m i : ℕ) (supply : Supply) → supply.power ≤ 99999999 → (found : Option Entity) → entity_in (year fs) i ≡ found
      → Says (λ _. Relevels start fs i supply (rebalanced found supply)) (rebalancing (holds start fs) m found supply)
  rebalances m i supply high None is = tt
  rebalances m i supply high (Some e) is =
      let there = lookup_has entity_number i (year fs).entities e is in
      let owned = all_member (Owned (λ k. Opened k fs)) (year fs).entities e kept.owned there.0 in
      let range = opened_range start fs kept e.account owned.0 in
      let level = guarantees e.method supply in
      let most = guarantees_most e.method supply high in
      let room : holds start fs e.account + level ≤ limit = omega (arith, held_most start fs kept e.account range.0 range.1) in
      says_levelled _ (holds start fs) m e.account e.level level (range_known e.account range.0 range.1) room
      (λ covered. (record { found = ap (entity_in (year fs)) there.1 ∙ is; most = most; covered = covered }, (e, kept.entities.so e there.0, there.1, refl)))

  offers : (m i s b x : ℕ) → is_trading (year fs).stage ≡ true → known s ≡ true → 1 ≤ x → Ruled start fs m (MakeOffer i s b x)
  offers m i s b x trading is_known some =
      says_walk _
      (is_open (year fs) s else NotOpen 2 ∷ is_open (year fs) b else NotOpen 3 ∷ not (eqb s b) else WrongParty 3
      ∷ not (is_some (offer_in (year fs) i)) else InUse 1 ∷ ltb (length (year fs).offers) 32 else RegisterFull ∷ []) _
      (tt, (tt, (tt, (tt, (tt, tt)))))
      (λ passed.
      says_debited (Said start fs (MakeOffer i s b x)) Holding (holds start fs) m s x is_known some
      (λ covered. (
        record {
          trading = trading;
          seller = passed.0;
          buyer = passed.1.0;
          some = some;
          free = none_found (offer_in (year fs) i) (not-true (is_some (offer_in (year fs) i)) passed.1.1.1.0);
          covered = covered;
        },
        tt,
      )))

  ends : (m i a : ℕ) (party : Offer → ℕ) → ((o : Offer) → (party o ≡ o.seller) ⊎ (party o ≡ o.buyer)) → is_trading (year fs).stage ≡ true → known a ≡ true
      → (found : Option Offer) → offer_in (year fs) i ≡ found → Says (λ _. Ends start fs party i a (ended_for party found)) (ending (holds start fs) m party found a)
  ends m i a party is_party trading is_known None is = tt
  ends m i a party is_party trading is_known (Some o) is =
      let there = lookup_has offer_number i (year fs).offers o is in
      let agreed = all_member (Agreed (λ k. Opened k fs)) (year fs).offers o kept.agreed there.0 in
      let range = known_range a is_known in
      let room : holds start fs a + o.amount ≤ limit = omega (arith, held_most start fs kept a range.0 range.1, offer_most start fs kept i o is) in
      says_walk _ (eqb a (party o) else WrongParty 2 ∷ []) _ (tt, tt)
      (λ passed.
      let caller : party o ≡ a = sym (eqb-true a (party o) passed.0) in
      says_credited _ Holding (holds start fs) m a o.amount is_known agreed.2 room
      (record { trading = trading; found = ap (offer_in (year fs)) there.1 ∙ is; party = is_party o }, (o, kept.offers.so o there.0, there.1, caller, ap (ended o) caller)))

  loads : (a t : ℕ) (s : Step) → t ≤ (year fs).n → (found : Option Account) → account_in (year fs) a ≡ found → Says (Said start fs (Load a t s)) (loading found (sort_at s.sort) t)
  loads a t s in_year None is = tt
  loads a t s in_year (Some x) is =
      let next = steps_loaded (sort_at s.sort) x + 1 in
      says_walk (Said start fs (Load a t s)) (eqb t (steps_loaded (sort_at s.sort) x + 1) else OutOfTurn 3 ∷ []) (Ok Done) (tt, tt)
      (λ passed. (record { account = x; found = is; next = omega (arith, in_year, eqb-true t next passed.0) }, tt))

  -- Every seller has room for all offers.
  none_without_room : (os : List Offer) → AllByRecursion (Agreed (λ k. Opened k fs)) os → first_without_room (holds start fs) (under_offers fs) os ≡ None
  none_without_room [] agreed = refl
  none_without_room (o ∷ os) agreed =
      let range = opened_range start fs kept o.seller agreed.0.0 in
      let room : holds start fs o.seller + under_offers fs ≤ limit = omega (arith, held_most start fs kept o.seller range.0 range.1) in
      cond-true (leb (holds start fs o.seller + under_offers fs) limit) _ _ (le-leb _ limit room) ∙ none_without_room os agreed.1

  closes : (m : ℕ) → Ruled start fs m Close
  closes m =
      let none = none_without_room (year fs).offers kept.agreed in
      says_walk (Said start fs Close) (leb (length (year fs).offers) m else PostsShort ∷ []) _ (tt, tt)
      (λ _. says_unless (Said start fs Close) (first_without_room (holds start fs) (under_offers fs) (year fs).offers) (λ a. Ledger (PastLimit a)) _
      (λ a some. absurd (let z : ◌≡◌ {A = ℕ} 0 1 = cc in omega arith))
      (λ _. (refl, tt)))

  settles : (m u v : ℕ) → is_closed (year fs).stage ≡ true → Ruled start fs m (Settle u v)
  settles m u v is_shut =
      says_unless (Said start fs (Settle u v)) (first_incomplete (year fs).n (year fs).accounts) Incomplete _ (λ a _. tt)
      (λ complete. (is_shut, settling start fs kept (closed_not_trading (year fs).stage is_shut) complete u v))

  reports : (a : ℕ) (found : Option Account) → account_in (year fs) a ≡ found → Says (Said start fs (Report a)) (reporting (year fs) (holds start fs) found)
  reports a None is = tt
  reports a (Some x) is = (tt, reported start fs kept a x is)

  -- The stage and the ranges are passed, or refuse.
  judged : (m : ℕ) (c : Call) → (needs c (year fs).stage ≡ true → InRange (fields (year fs) c) → Ruled start fs m c) → Says (Said start fs c) (judge (year fs) (holds start fs) m c)
  judged m c ruled =
      says_if (Said start fs c) (needs c (year fs).stage) (in_range 1 (fields (year fs) c) (ruling (year fs) (holds start fs) m c)) WrongStage tt
      (λ stage. says_in_range (Said start fs c) 1 (fields (year fs) c) (ruling (year fs) (holds start fs) m c) (ruled stage))

  pub answer : (m : ℕ) (c : Call) → Says (Said start fs c) (judge (year fs) (holds start fs) m c)
  answer m (Begin n security) = judged m (Begin n security) (λ stage _. absurd (both_ways (is_blank (year fs).stage) kept.begun stage))
  answer m (Open a) = judged m (Open a) (λ _ fine. opens m a fine.0)
  answer m (Certify i a method supply) =
      judged m (Certify i a method supply) (λ _ fine. certifies m i a method supply fine.1.0 (leb-true supply.power 99999999 fine.1.1.1.0))
  answer m (Rebalance i supply) =
      judged m (Rebalance i supply) (λ _ fine. rebalances m i supply (leb-true supply.power 99999999 fine.1.0) (entity_in (year fs) i) refl)
  answer m (MakeOffer i s b x) =
      judged m (MakeOffer i s b x) (λ stage fine. offers m i s b x stage fine.1.0 (leb-true 1 x (and_parts (leb 1 x) (leb x limit) fine.1.1.1.0).0))
  answer m (Accept i a) = judged m (Accept i a) (λ stage fine. ends m i a (λ o. o.buyer) (λ _. inr refl) stage fine.1.0 (offer_in (year fs) i) refl)
  answer m (Recall i a) = judged m (Recall i a) (λ stage fine. ends m i a (λ o. o.seller) (λ _. inl refl) stage fine.1.0 (offer_in (year fs) i) refl)
  answer m (Load a t s) =
      judged m (Load a t s) (λ _ fine. loads a t s (leb-true t (year fs).n (and_parts (leb 1 t) (leb t (year fs).n) fine.1.1.0).1) (account_in (year fs) a) refl)
  answer m Close = judged m Close (λ _ _. closes m)
  answer m (Settle u v) = judged m (Settle u v) (λ stage _. settles m u v stage)
  answer m (Report a) = judged m (Report a) (λ _ _. reports a (account_in (year fs) a) refl)
