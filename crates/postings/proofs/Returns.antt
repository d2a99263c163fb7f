-- Offers returned to their sellers, one after another.
use Rattle.std.proofs.Common.{◌≡◌, ℕ, zero, suc, ◌+◌, ◌<◌, ◌≤◌, Bool, true, false, cond, eqb, leb, List, [], ◌∷◌, length, get_or, take, drop, Some, None, Ok, sum_by, Option, Result, sym, refl, ap, ◌∙◌, subst, arith}
use mathlib.Core.Bool.{Bool-set}
use mathlib.Core.Logic.{∥∥₁_elim}
use native.Mathlib.Bridge.{le_prop}
use Rattle.std.proofs.ByRecursion.{All-get_or}
use Rattle.std.proofs.lemmas.List.{take_all, drop_more, drop_all}
use Rattle.std.proofs.lemmas.List.Sums.{sum_by-cons, sum_by_more, sum_by-take-le}
use Rattle.std.proofs.lemmas.Bool.{leb-true, le-leb, eqb-true, cond-true, cond-false}
use Rattle.ledger.specs.declared.fault.LedgerFault.{LedgerFault}
use Rattle.ledger.specs.Rules.{limit, known, crediting, held_after, PostsFall}
use Rattle.rules.specs.declared.records.Offer.{Offer}
use Rattle.rules.specs.Records.{offered_amount}
use Rattle.rules.specs.Facts.{to, returned_to}
use Rattle.rules.specs.Judgement.{first_without_room}
use Rattle.postings.specs.Offers.{Real}

-- each offer is real
pub real_at : (os : List Offer) (i : ℕ) (d : Offer) → i < length os → ∥ Real os ∥₁ → (known (get_or os i d).seller ≡ true) × (1 ≤ (get_or os i d).amount)
real_at os i d lt real =
    let at : Real os → (known (get_or os i d).seller ≡ true) × (1 ≤ (get_or os i d).amount) = All-get_or (λ o. (known o.seller ≡ true) × (1 ≤ o.amount)) os i d lt in
    (∥∥₁_elim real (Bool-set _ _) (λ h. (at h).0), ∥∥₁_elim real le_prop (λ h. (at h).1))

-- where no offer is without room, each seller has room for all
pub room_at : (f : ℕ → ℕ) (all : ℕ) (os : List Offer) (i : ℕ) (d : Offer) → i < length os → first_without_room f all os ≡ None → f (get_or os i d).seller + all ≤ limit
room_at f all [] i d lt none = absurd (omega arith)
room_at f all (o ∷ os) i d lt none = go (leb (f o.seller + all) limit) refl none i lt (λ i lt none. room_at f all os i d lt none)
  where
    go : (b : Bool) → leb (f o.seller + all) limit ≡ b → cond b (first_without_room f all os) (Some o.seller) ≡ None → (i : ℕ) → i < suc (length os)
        → ((i : ℕ) → i < length os → first_without_room f all os ≡ None → f (get_or os i d).seller + all ≤ limit) → f (get_or (o ∷ os) i d).seller + all ≤ limit
    go true e n zero lt later = leb-true (f o.seller + all) limit e
    go true e n (suc i) lt later = later i (omega arith) n
    go false e n i lt later = absurd (let z : ◌≡◌ {A = ℕ} 0 1 = cc in omega arith)

-- the search for an offer without room, at the offer i
room_step : (f : ℕ → ℕ) (all : ℕ) (os : List Offer) (i : ℕ) (d : Offer) (found : Option ℕ) → i < length os → first_without_room f all (drop i os) ≡ found
    → found ≡ cond (leb (f (get_or os i d).seller + all) limit) (first_without_room f all (drop (i + 1) os)) (Some (get_or os i d).seller)
room_step f all os i d found lt is = sym is ∙ ap (first_without_room f all) (drop_more os i d lt)

pub room_next : (f : ℕ → ℕ) (all : ℕ) (os : List Offer) (i : ℕ) (d : Offer) (found : Option ℕ) → i < length os → first_without_room f all (drop i os) ≡ found
    → leb (f (get_or os i d).seller + all) limit ≡ true → first_without_room f all (drop (i + 1) os) ≡ found
room_next f all os i d found lt is room = sym (room_step f all os i d found lt is ∙ cond-true (leb (f (get_or os i d).seller + all) limit) _ _ room)

pub room_not : (f : ℕ → ℕ) (all : ℕ) (os : List Offer) (i : ℕ) (d : Offer) (found : Option ℕ) → i < length os → first_without_room f all (drop i os) ≡ found
    → leb (f (get_or os i d).seller + all) limit ≡ false → Some (get_or os i d).seller ≡ found
room_not f all os i d found lt is room = sym (room_step f all os i d found lt is ∙ cond-false (leb (f (get_or os i d).seller + all) limit) _ _ room)

pub room_everywhere : (f : ℕ → ℕ) (all : ℕ) (os : List Offer) (i : ℕ) (found : Option ℕ) → length os ≤ i → first_without_room f all (drop i os) ≡ found → None ≡ found
room_everywhere f all os i found past is = sym (ap (first_without_room f all) (drop_all i os past)) ∙ is

-- a credit with an account, an amount, a post and room is accepted
pub credit_accepted : (f : ℕ → ℕ) (m a x : ℕ) → known a ≡ true → 1 ≤ x → 1 ≤ m → f a + x ≤ limit → crediting f m a x ≡ Ok (f a + x)
credit_accepted f m a x is_known some posts room =
    cond-true (known a) _ _ is_known ∙ cond-true (leb 1 x) _ _ (le-leb 1 x some) ∙ cond-true (leb 1 m) _ _ (le-leb 1 m posts) ∙ cond-true (leb (f a + x) limit) _ _ (le-leb (f a + x) limit room)

returned_most : (k : ℕ) (os : List Offer) → returned_to k os ≤ sum_by offered_amount os
returned_most k [] = omega arith
returned_most k (o ∷ os) =
    omega (arith, returned_most k os, sum_by-cons (λ o. to o.seller o.amount k) o os, sum_by-cons offered_amount o os, part (eqb k o.seller))
  where
    part : (b : Bool) → cond b o.amount 0 ≤ o.amount
    part true = omega arith
    part false = omega arith

credited : (b : Bool) (x y m n : ℕ) → (b ≡ true → x ≡ y) → n ≡ cond b (x + m) y → n ≡ y + cond b m 0
credited true x y m n same is = omega (arith, same refl, is)
credited false x y m n same is = omega (arith, is)

-- what the loop keeps after i offers
pub record Returned (os : List Offer) (i : ℕ) (f g : ℕ → ℕ) (m n : ℕ) : Type 0 where
  pub holds : (k : ℕ) → g k ≡ f k + returned_to k (take i os)
  pub most : n ≤ m
  pub least : m ≤ n + i

pub returned_next : (os : List Offer) (i : ℕ) (d : Offer) (f g h : ℕ → ℕ) (m n q : ℕ) (r : Result ℕ LedgerFault) → i < length os → ∥ Real os ∥₁ → length os ≤ m → first_without_room f (sum_by offered_amount os) os ≡ None
    → Returned os i f g m n → r ≡ crediting g n (get_or os i d).seller (get_or os i d).amount → ((k : ℕ) → h k ≡ held_after r (get_or os i d).seller g k) → PostsFall r n q → Returned os (i + 1) f h m q
returned_next os i d f g h m n q r lt real enough room so is then fall =
    let a = (get_or os i d).seller in
    let x = (get_or os i d).amount in
    let here = real_at os i d lt real in
    let space = room_at f (sum_by offered_amount os) os i d lt room in
    let more = sum_by_more offered_amount os i d lt in
    let part = sum_by-take-le offered_amount os (i + 1) in
    let back = returned_most (get_or os i d).seller (take i os) in
    let held = so.holds (get_or os i d).seller in
    let few = so.least in
    let ok = credit_accepted g n (get_or os i d).seller (get_or os i d).amount here.0 here.1 (omega arith) (omega arith) in
    let fell : PostsFall (Ok (g (get_or os i d).seller + (get_or os i d).amount)) n q = subst (λ (r : Result ℕ LedgerFault). PostsFall r n q) (is ∙ ok) fall in
    let after : (k : ℕ) → h k ≡ cond (eqb k (get_or os i d).seller) (g (get_or os i d).seller + (get_or os i d).amount) (g k) = λ k. then k ∙ ap (λ (r : Result ℕ LedgerFault). held_after r (get_or os i d).seller g k) (is ∙ ok) in
    let most = so.most in
    record {
      holds = λ k.
          let one = sum_by_more (λ o. to o.seller o.amount k) os i d lt in
          let up = credited (eqb k (get_or os i d).seller) (g (get_or os i d).seller) (g k) (get_or os i d).amount (h k) (λ e. ap g (sym (eqb-true k (get_or os i d).seller e))) (after k) in
          omega (arith, so.holds k, one, up);
      most = omega (arith, fell.0);
      least = omega (arith, fell.1);
    }

pub returned_none : (os : List Offer) (f : ℕ → ℕ) (m : ℕ) → Returned os 0 f f m m
returned_none os f m = record { holds = λ k. omega arith; most = omega arith; least = omega arith }

pub returned_all : (os : List Offer) (i : ℕ) (f g : ℕ → ℕ) (m n : ℕ) → length os ≤ i → i ≤ length os → Returned os i f g m n
    → ((k : ℕ) → g k ≡ f k + returned_to k os) × (n ≤ m) × (m ≤ n + length os)
returned_all os i f g m n past within so =
    let all = take_all i os past in
    ((λ k. so.holds k ∙ ap (λ xs. f k + returned_to k xs) all), so.most, omega (arith, so.least))
