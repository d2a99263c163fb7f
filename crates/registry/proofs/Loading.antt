-- How a step is loaded.
use Rattle.std.proofs.Common.{◌≡◌, ℕ, ◌+◌, ◌*◌, ◌≤◌, Bool, true, false, cond, eqb, leb, List, ◌∷◌, ℤ, ◌+ℤ◌, nat_abs, Some, Ok, Err, Option, Result, sym, refl, ap, ◌∙◌, subst, add-mul, arith}
use Rattle.std.proofs.lemmas.Int.{ints}
use Rattle.std.proofs.lemmas.Bool.{eqb-true, leb-true, and_parts}
use Rattle.curves.specs.declared.obligations.Sort.{Sort}
use Rattle.curves.specs.declared.obligations.Sort.TheVariants.{Profiled, Losses}
use Rattle.curves.specs.declared.obligations.Step.{Step}
use Rattle.curves.specs.declared.ranges.OutOfRange.{OutOfRange}
use Rattle.curves.specs.Ranges.{within, judged}
use Rattle.ledger.specs.Rules.{known}
use Rattle.curves.specs.Obligations.{sort_at, readings_fine, step_adds, most_added}
use Rattle.curves.proofs.Judging.{fine_if_accepted}
use Rattle.registers.specs.Rows.{lookup, replaced}
use Rattle.registers.proofs.Order.{all_replaced, numbered_replaced}
use Rattle.registers.proofs.Members.{all_member, lookup_has}
use Rattle.rules.specs.declared.records.Account.{Account}
use Rattle.rules.specs.declared.calls.Call.TheVariants.{Load}
use Rattle.rules.specs.declared.calls.Reply.TheVariants.{Done}
use Rattle.rules.specs.declared.faults.RegistryFault.{RegistryFault}
use Rattle.rules.specs.declared.faults.RegistryFault.TheVariants.{OutOfTurn}
use Rattle.rules.specs.Records.{account_number}
use Rattle.rules.specs.Year.{Year, account_in}
use Rattle.rules.specs.Facts.{grown_by, grown_in, with_accounts}
use Rattle.rules.specs.Judgement.{judge, needs, fields, loading, steps_loaded}
use Rattle.rules.specs.Calls.{Called}
use Rattle.accounts.specs.declared.loading.Addition.{Addition}
use Rattle.accounts.specs.Additions.{addition_of}
use Rattle.accounts.specs.Bounds.{Bounded, Kept}
use Rattle.registry.proofs.Calling.{refused, judged_by_ruling, judged_value}

-- past the ranges, the account decides
pub load_judged : (y : Year) (f : ℕ → ℕ) (m a t : ℕ) (s : Step) (added : Addition) (o : Option Account) → needs (Load a t s) y.stage ≡ true → judged 1 (fields y (Load a t s)) (addition_of s) ≡ Ok added → account_in y a ≡ o → loading o (sort_at s.sort) t ≡ judge y f m (Load a t s)
load_judged y f m a t s added o stage fine found =
    judged_by_ruling (Load a t s) y f m (addition_of s) added _ stage fine (ap (λ (x : Option Account). loading x (sort_at s.sort) t) found)

-- the ranges are judged by the half-hours of the year
pub fine_in_year : (y : Year) (n a t : ℕ) (s : Step) (r : Result Addition OutOfRange) → n ≡ y.n → r ≡ judged 1 (known a ∷ within 1 2 s.sort ∷ within 1 n t ∷ readings_fine (sort_at s.sort) s) (addition_of s) → judged 1 (fields y (Load a t s)) (addition_of s) ≡ r
fine_in_year y n a t s r same is = ap (λ (k : ℕ). judged 1 (known a ∷ within 1 2 s.sort ∷ within 1 k t ∷ readings_fine (sort_at s.sort) s) (addition_of s)) (sym same) ∙ sym is

-- a step in range is one of the year
pub load_in_year : (y : Year) (a t : ℕ) (s : Step) (added : Addition) → judged 1 (fields y (Load a t s)) (addition_of s) ≡ Ok added → t ≤ y.n
load_in_year y a t s added fine = leb-true t y.n (and_parts (leb 1 t) (leb t y.n) (fine_if_accepted 1 (fields y (Load a t s)) (addition_of s) added fine).1.1.0).1

-- a record found under the same number
pub found_as : (n a : ℕ) (xs : List Account) (o : Option Account) → n ≡ a → o ≡ lookup account_number n xs → lookup account_number a xs ≡ o
found_as n a xs o same is = ap (λ (k : ℕ). lookup account_number k xs) (sym same) ∙ sym is

-- whether the step is the next of its series
next_or_not : (b : Bool) (x y : Account) (fault e : RegistryFault) → Ok y ≡ cond b (Ok x) (Err fault) → (b ≡ true) × (y ≡ x)
next_or_not true x y fault e is = (refl, cc)
next_or_not false x y fault e is = absurd (let z : ◌≡◌ {A = ℕ} 0 1 = cc in omega arith)

out_of_turn : (b : Bool) (x : Account) (fault e : RegistryFault) → Err e ≡ cond b (Ok x) (Err fault) → (b ≡ false) × (e ≡ fault)
out_of_turn true x fault e is = absurd (let z : ◌≡◌ {A = ℕ} 0 1 = cc in omega arith)
out_of_turn false x fault e is = (refl, cc)

module _ (y : Year) (f : ℕ → ℕ) (m a t : ℕ) (s : Step) (added : Addition) (x : Account) (stage : needs (Load a t s) y.stage ≡ true) (fine : judged 1 (fields y (Load a t s)) (addition_of s) ≡ Ok added) (found : account_in y a ≡ Some x) where
  pub load_turned_away : (e : RegistryFault) → Err e ≡ cond (eqb t (steps_loaded added.sort x + 1)) (Ok (grown_by added.sort added.value x)) (Err (OutOfTurn 3)) → Called (Load a t s) (Err e) y y f f m m
  load_turned_away e is =
      let same = judged_value 1 (fields y (Load a t s)) (addition_of s) added fine in
      let not_next = out_of_turn (eqb t (steps_loaded added.sort x + 1)) _ (OutOfTurn 3) e is in
      let b : eqb t (steps_loaded (sort_at s.sort) x + 1) ≡ false = ap (λ (k : Addition). eqb t (steps_loaded k.sort x + 1)) (sym same) ∙ not_next.0 in
      let answer : Err e ≡ judge y f m (Load a t s) = ap Err not_next.1 ∙ sym (ap (λ (c : Bool). cond c (Ok Done) (Err (OutOfTurn 3))) b) ∙ load_judged y f m a t s added (Some x) stage fine found in
      refused (Load a t s) e y f f m m answer (λ k. refl) (omega arith) (omega arith)

  pub load_called : (grown : Account) (xs : List Account) → Ok grown ≡ cond (eqb t (steps_loaded added.sort x + 1)) (Ok (grown_by added.sort added.value x)) (Err (OutOfTurn 3)) → xs ≡ replaced account_number grown y.accounts → Called (Load a t s) (Ok Done) y (with_accounts xs y) f f m m
  load_called grown xs is after =
      let same = judged_value 1 (fields y (Load a t s)) (addition_of s) added fine in
      let next = next_or_not (eqb t (steps_loaded added.sort x + 1)) _ grown (OutOfTurn 3) (OutOfTurn 3) is in
      let b : eqb t (steps_loaded (sort_at s.sort) x + 1) ≡ true = ap (λ (k : Addition). eqb t (steps_loaded k.sort x + 1)) (sym same) ∙ next.0 in
      let grew : grown ≡ grown_by (sort_at s.sort) (step_adds s) x = next.1 ∙ ap (λ (k : Addition). grown_by k.sort k.value x) same in
      record {
        answer = sym (ap (λ (c : Bool). cond c (Ok Done) (Err (OutOfTurn 3))) b) ∙ load_judged y f m a t s added (Some x) stage fine found;
        year = ap (λ (zs : List Account). with_accounts zs y) (after ∙ ap (λ (g : Account). replaced account_number g y.accounts) grew ∙ sym (ap (λ (o : Option Account). grown_in o s y.accounts) found));
        holds = λ k. refl;
        posts = (omega arith, omega arith);
      }

-- bounds of an account's series
pub bounds_of : (n a : ℕ) (xs : List Account) (x : Account) → lookup account_number a xs ≡ Some x → Kept n xs → Bounded n x.profiled × Bounded n x.losses
bounds_of n a xs x found kept = all_member (λ z. Bounded n z.profiled × Bounded n z.losses) xs x kept.1 (lookup_has account_number a xs x found).0

longer_size : (l : ℕ) (sum v : ℤ) → nat_abs sum ≤ l * most_added → nat_abs v ≤ most_added → nat_abs (sum +ℤ v) ≤ (l + 1) * most_added
longer_size l sum v a b =
    let size : nat_abs (sum +ℤ v) ≤ nat_abs sum + nat_abs v = omega (arith, ints) in
    omega (arith, size, a, b, add-mul l 1 most_added)

grown_bounds : (n t : ℕ) (sort : Sort) (v : ℤ) (x : Account) → t ≤ n → nat_abs v ≤ most_added → t ≡ steps_loaded sort x + 1 → Bounded n x.profiled × Bounded n x.losses → Bounded n (grown_by sort v x).profiled × Bounded n (grown_by sort v x).losses
grown_bounds n t Profiled v x le small is b = ((omega (arith, le, is), longer_size x.profiled.loaded x.profiled.sum v b.0.1 small), b.1)
grown_bounds n t Losses v x le small is b = (b.0, (omega (arith, le, is), longer_size x.losses.loaded x.losses.sum v b.1.1 small))

pub kept_loaded : (n a t : ℕ) (added : Addition) (x grown : Account) (xs ys : List Account) → lookup account_number a xs ≡ Some x → t ≤ n → nat_abs added.value ≤ most_added → Ok grown ≡ cond (eqb t (steps_loaded added.sort x + 1)) (Ok (grown_by added.sort added.value x)) (Err (OutOfTurn 3)) → ys ≡ replaced account_number grown xs → Kept n xs → Kept n ys
kept_loaded n a t added x grown xs ys found le small is after kept =
    let next = next_or_not (eqb t (steps_loaded added.sort x + 1)) _ grown (OutOfTurn 3) (OutOfTurn 3) is in
    let P : Account → Type 0 = λ z. Bounded n z.profiled × Bounded n z.losses in
    let new : P grown = subst P (sym next.1) (grown_bounds n t added.sort added.value x le small (eqb-true t (steps_loaded added.sort x + 1) next.0) (bounds_of n a xs x found kept)) in
    subst (Kept n) (sym after) (numbered_replaced account_number 64 grown xs kept.0, all_replaced account_number P grown xs (λ _ _ _. new) kept.1)
