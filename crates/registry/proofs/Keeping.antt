-- What the state keeps through the calls.
use Rattle.std.proofs.Common.{◌≡◌, ℕ, ◌<◌, ◌≤◌, Bool, true, false, cond, leb, List, length, is_some, is_ok, Some, None, Ok, Err, Option, Result, sym, refl, ap, ◌∙◌, subst, arith, lit≤}
use mathlib.Core.Logic.{∥∥₁_elim}
use native.Mathlib.Bridge.{le_prop}
use Rattle.std.specs.List.{AllByRecursion}
use Rattle.std.specs.Option.{ok_or}
use Rattle.std.proofs.ByRecursion.{All-weaker}
use Rattle.std.proofs.lemmas.Bool.{leb-true, and_parts}
use Rattle.curves.specs.Ranges.{within}
use Rattle.ledger.specs.Rules.{known, limit}
use Rattle.registers.specs.declared.RegisterFault.{RegisterFault}
use Rattle.registers.specs.declared.RegisterFault.TheVariants.{InUse, Full}
use Rattle.registers.specs.Rows.{Numbered, lookup, inserted, without}
use Rattle.registers.specs.Held.{entering}
use Rattle.registers.proofs.Members.{lookup_has}
use Rattle.registers.proofs.Order.{all_inserted, all_without}
use Rattle.registers.proofs.Entries.{taken_in as entry_accepted, numbered_entered, by_entry, never_full}
use Rattle.rules.specs.declared.calls.Stage.TheVariants.{Closed}
use Rattle.rules.specs.declared.records.Account.{Account}
use Rattle.rules.specs.declared.records.Offer.{Offer}
use Rattle.rules.specs.Records.{account_number, offer_number}
use Rattle.postings.specs.Offers.{Real}
use Rattle.rules.specs.Facts.{new_account}
use Rattle.accounts.specs.Bounds.{Bounded, Kept}
use Rattle.registry.specs.declared.phase.Phase.{Phase}
use Rattle.registry.specs.declared.phase.Phase.TheVariants.{Blank as IsBlank, Trading as IsTrading, Closed as IsClosed, Settled as IsSettled}
use Rattle.registry.specs.Phases.{stage_of, half_hours_of, security_of}

-- what held of no half-hours holds of more
pub kept_longer : (m n : ℕ) (accounts : List Account) → m ≤ n → Kept m accounts → Kept n accounts
kept_longer m n accounts le kept =
    (kept.0, All-weaker (λ a. Bounded m a.profiled × Bounded m a.losses) (λ a. Bounded n a.profiled × Bounded n a.losses) (λ a b. ((omega (arith, b.0.0), b.0.1), (omega (arith, b.1.0), b.1.1))) accounts kept.1)

known_range : (a : ℕ) → known a ≡ true → (0 < a) × (a ≤ 64)
known_range a is = let both = and_parts (leb 1 a) (leb a 64) is in (leb-true 1 a both.0, leb-true a 64 both.1)

-- a new account keeps the numbers rising and has no steps
pub kept_opened : (n a places : ℕ) (new : Account) (xs ys : List Account) (r : Result (Unit {0}) RegisterFault) → new ≡ new_account a → known a ≡ true → r ≡ entering account_number new places xs → ys ≡ cond (is_ok r) (inserted account_number new xs) xs → Kept n xs → Kept n ys
kept_opened n a places new xs ys r fresh is answer after kept =
    let range = known_range a is in
    let numbered : account_number new ≡ a = ap account_number fresh in
    let low : 0 < account_number new = omega (arith, numbered, range.0) in
    let high : account_number new ≤ 64 = omega (arith, numbered, range.1) in
    let P : Account → Type 0 = λ x. Bounded n x.profiled × Bounded n x.losses in
    let empty : P new = subst P (sym fresh) ((omega arith, omega arith), (omega arith, omega arith)) in
    (numbered_entered account_number 64 new places xs ys r answer after low high kept.0, by_entry account_number (AllByRecursion P) new places xs ys r answer after kept.1 (λ _ _. all_inserted account_number P new xs empty kept.1))

-- a register of accounts refuses only a number in use
pub refused_in_use : (a : ℕ) (new : Account) (places : ℕ) (xs : List Account) (fault : RegisterFault) → new ≡ new_account a → known a ≡ true → places ≡ 64 → Numbered account_number 64 xs → Err fault ≡ entering account_number new places xs → is_some (lookup account_number a xs) ≡ true
refused_in_use a new places xs fault fresh is all numbered answer =
    let range = known_range a is in
    let same : account_number new ≡ a = ap account_number fresh in
    let low : 0 < account_number new = omega (arith, same, range.0) in
    let high : account_number new ≤ 64 = omega (arith, same, range.1) in
    let never = never_full account_number 64 new xs numbered low high in
    let is_so : Err fault ≡ cond (is_some (lookup account_number (account_number new) xs)) (Err InUse) (Ok tt) = answer ∙ ap (λ (n : ℕ). entering account_number new n xs) all ∙ never in
    go (is_some (lookup account_number a xs)) (is_so ∙ ap (λ (k : ℕ). cond (is_some (lookup account_number k xs)) (Err InUse) (Ok tt)) same)
  where
    go : (b : Bool) → Err fault ≡ cond b (Err InUse) (Ok (tt {0})) → b ≡ true
    go true e = refl
    go false e = absurd (let z : ◌≡◌ {A = ℕ} 0 1 = cc in omega arith)

-- and never for want of a place
never_full_of_accounts : (a : ℕ) (new : Account) (places : ℕ) (xs : List Account) → new ≡ new_account a → known a ≡ true → places ≡ 64 → Numbered account_number 64 xs → Err Full ≡ entering account_number new places xs → 1 ≤ 0
never_full_of_accounts a new places xs fresh is all numbered answer =
    let range = known_range a is in
    let same : account_number new ≡ a = ap account_number fresh in
    let low : 0 < account_number new = omega (arith, same, range.0) in
    let high : account_number new ≤ 64 = omega (arith, same, range.1) in
    go (is_some (lookup account_number (account_number new) xs)) (answer ∙ ap (λ (n : ℕ). entering account_number new n xs) all ∙ never_full account_number 64 new xs numbered low high)
  where
    go : (b : Bool) → Err Full ≡ cond b (Err InUse) (Ok (tt {0})) → 1 ≤ 0
    go true e = absurd (let z : ◌≡◌ {A = ℕ} 0 1 = cc in omega arith)
    go false e = absurd (let z : ◌≡◌ {A = ℕ} 0 1 = cc in omega arith)

pub in_use_only : (n a : ℕ) (new : Account) (places : ℕ) (xs : List Account) (fault : RegisterFault) → new ≡ new_account a → known a ≡ true → places ≡ 64 → ∥ Kept n xs ∥₁ → Err fault ≡ entering account_number new places xs → fault ≡ InUse
in_use_only n a new places xs InUse fresh is all kept answer = refl
in_use_only n a new places xs Full fresh is all kept answer =
    let none : 1 ≤ 0 = ∥∥₁_elim kept le_prop (λ k. never_full_of_accounts a new places xs fresh is all k.0 answer) in
    absurd (omega (arith, none))

none_found : {X : Type 0} (o : Option X) → is_some o ≡ false → o ≡ None
none_found None e = refl
none_found (Some x) e = absurd (let z : ◌≡◌ {A = ℕ} 0 1 = cc in omega arith)

-- a record under a free number, with a place free, is taken in
pub taken_in : {R : Type 0} (key : R → ℕ) (new : R) (places most : ℕ) (xs ys : List R) (r : Result (Unit {0}) RegisterFault) → is_some (lookup key (key new) xs) ≡ false → length xs < most → places ≡ most → r ≡ entering key new places xs → ys ≡ cond (is_ok r) (inserted key new xs) xs → ys ≡ inserted key new xs
taken_in key new places most xs ys r free few all answer after =
    let ok : r ≡ Ok tt = answer ∙ entry_accepted key new places xs (none_found (lookup key (key new) xs) free) (omega (arith, few, all)) in
    after ∙ ap (λ (a : Result (Unit {0}) RegisterFault). cond (is_ok a) (inserted key new xs) xs) ok

-- the standing offers stay real
pub real_without : (n : ℕ) (xs ys : List Offer) → ys ≡ without offer_number n xs → Real xs → Real ys
real_without n xs ys is real = subst Real (sym is) (all_without offer_number (λ o. (known o.seller ≡ true) × (1 ≤ o.amount)) n xs real)

pub real_inserted : (o : Offer) (places : ℕ) (xs ys : List Offer) (r : Result (Unit {0}) RegisterFault) → known o.seller ≡ true → within 1 limit o.amount ≡ true → r ≡ entering offer_number o places xs → ys ≡ cond (is_ok r) (inserted offer_number o xs) xs → Real xs → Real ys
real_inserted o places xs ys r is some answer after real =
    let amount = leb-true 1 o.amount (and_parts (leb 1 o.amount) (leb o.amount limit) some).0 in
    by_entry offer_number Real o places xs ys r answer after real (λ _ _. all_inserted offer_number (λ o. (known o.seller ≡ true) × (1 ≤ o.amount)) o xs (is, amount) real)

-- never more than 400 half-hours
pub half_hours_most : (p : Phase) → half_hours_of p ≤ 400
half_hours_most IsBlank = lit≤ tt
half_hours_most (IsTrading terms) = terms.n_most
half_hours_most (IsClosed terms) = terms.n_most
half_hours_most (IsSettled terms prices) = terms.n_most

-- the terms of a year that is closed
pub terms_closed : (p : Phase) → stage_of p ≡ Closed → (1 ≤ half_hours_of p) × (half_hours_of p ≤ 400) × (security_of p ≤ 2000)
terms_closed IsBlank is = absurd (let z : ◌≡◌ {A = ℕ} 0 1 = cc in omega arith)
terms_closed (IsTrading terms) is = absurd (let z : ◌≡◌ {A = ℕ} 0 1 = cc in omega arith)
terms_closed (IsClosed terms) is = (terms.n_least, terms.n_most, terms.security_most)
terms_closed (IsSettled terms prices) is = absurd (let z : ◌≡◌ {A = ℕ} 0 1 = cc in omega arith)

-- an account that was found is found by its own number
pub found_by_number : (n : ℕ) (xs : List Account) (x : Account) → Some x ≡ lookup account_number n xs → lookup account_number x.number xs ≡ Some x
found_by_number n xs x found = ap (λ (k : ℕ). lookup account_number k xs) (lookup_has account_number n xs x (sym found)).1 ∙ sym found

-- what an answer says of what was asked for
pub some_if_ok : {A E : Type 0} (o : Option A) (x : A) (e : E) → Ok x ≡ ok_or o e → o ≡ Some x
some_if_ok None x e is = absurd (let z : ◌≡◌ {A = ℕ} 0 1 = cc in omega arith)
some_if_ok (Some y) x e is = let same : x ≡ y = cc in ap Some (sym same)
