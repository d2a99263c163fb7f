-- The records of the accounts tell which are open, and what was loaded for each.
use Rattle.std.proofs.Common.{◌≡◌, ℕ, ◌+◌, ◌≤◌, Bool, true, false, cond, eqb, ◌≢◌, ◌⊎◌, List, [], ◌∷◌, ◌++◌, length, ℤ, ◌+ℤ◌, Some, None, sym, refl, ap, ◌∙◌, subst, inl, inr, ⊎_elim, arith}
use Rattle.std.proofs.lemmas.Int.{ints}
use Rattle.std.proofs.lemmas.Bool.{false≢true, true≢false, cases_eq, cond-true, cond-false, eq-eqb, ne_eqb}
use Rattle.registers.specs.Rows.{Numbered, lookup, inserted, replaced}
use Rattle.registers.specs.Laws.{Member}
use Rattle.registers.proofs.Order.{numbered_inserted, numbered_replaced}
use Rattle.registers.proofs.Members.{lookup_has, lookup_member, member_inserted, member_replaced}
use Rattle.curves.specs.declared.obligations.Step.{Step}
use Rattle.curves.specs.declared.obligations.Sort.{Sort}
use Rattle.curves.specs.declared.obligations.Sort.TheVariants.{Profiled, Losses}
use Rattle.curves.specs.Obligations.{sort_at, step_adds, sum_of_steps}
use Rattle.rules.specs.declared.records.Account.{Account}
use Rattle.rules.specs.Records.{account_number}
use Rattle.rules.specs.Facts.{new_account, grown_by, grown}
use Rattle.rules.specs.Judgement.{steps_loaded}
use Rattle.law.specs.Law.{same_sort, of_sort}
use Rattle.law.proofs.Registers.{each_inserted, each_replaced}

-- The sums and counts of an account's record are those of these steps, and no series is longer than a year of n half-hours.
pub record RecordTells (n : ℕ) (steps : List Step) (a : Account) : Type 0 where
  pub sums : a.profiled.sum +ℤ a.losses.sum ≡ sum_of_steps steps
  pub profiled_count : a.profiled.loaded ≡ length (of_sort Profiled steps)
  pub losses_count : a.losses.loaded ≡ length (of_sort Losses steps)
  pub profiled_most : a.profiled.loaded ≤ n
  pub losses_most : a.losses.loaded ≤ n

-- The accounts xs have exactly the numbers that are open, all of them from 1 to 64, and each tells the steps loaded for it.
pub record AccountsTell (n : ℕ) (xs : List Account) (Open : ℕ → Type 0) (steps : ℕ → List Step) : Type 0 where
  pub numbered : Numbered account_number 64 xs
  pub so : (a : Account) → Member a xs → Open a.number
  pub listed : (k : ℕ) → Open k → (a : Account) × Member a xs × (a.number ≡ k)
  pub told : (a : Account) → Member a xs → RecordTells n (steps a.number) a
  pub unopened : (k : ℕ) → (Open k → ⊥) → steps k ≡ []

new_tells : (n a : ℕ) → RecordTells n [] (new_account a)
new_tells n a = record { sums = refl; profiled_count = refl; losses_count = refl; profiled_most = omega arith; losses_most = omega arith }

more_first : (a b v w t : ℤ) → a +ℤ b ≡ t → w ≡ v → (a +ℤ v) +ℤ b ≡ w +ℤ t
more_first a b v w t e same = omega (arith, ints)

more_second : (a b v w t : ℤ) → a +ℤ b ≡ t → w ≡ v → a +ℤ (b +ℤ v) ≡ w +ℤ t
more_second a b v w t e same = omega (arith, ints)

-- One more step in the series of its sort, and none in the other.
one_more : (fits : Bool) (n : ℕ) (s : Step) (steps : List Step) → n ≡ length steps → fits ≡ true → n + 1 ≡ length (cond fits (s ∷ steps) steps)
one_more true n s steps e in_it = omega arith
one_more false n s steps e in_it = absurd (false≢true in_it)

no_more : (fits : Bool) (n : ℕ) (s : Step) (steps : List Step) → n ≡ length steps → fits ≡ false → n ≡ length (cond fits (s ∷ steps) steps)
no_more true n s steps e apart = absurd (true≢false apart)
no_more false n s steps e apart = e

grown_tells : (n : ℕ) (a : Account) (s : Step) (steps : List Step) (z : Sort) → sort_at s.sort ≡ z → steps_loaded z a + 1 ≤ n → RecordTells n steps a → RecordTells n (s ∷ steps) (grown_by z (step_adds s) a)
grown_tells n a s steps Profiled e next t =
    record {
      sums = more_first a.profiled.sum a.losses.sum (step_adds s) _ _ t.sums refl;
      profiled_count = one_more (same_sort Profiled (sort_at s.sort)) _ s _ t.profiled_count (ap (same_sort Profiled) e);
      losses_count = no_more (same_sort Losses (sort_at s.sort)) _ s _ t.losses_count (ap (same_sort Losses) e);
      profiled_most = next;
      losses_most = t.losses_most;
    }
grown_tells n a s steps Losses e next t =
    record {
      sums = more_second a.profiled.sum a.losses.sum (step_adds s) _ _ t.sums refl;
      profiled_count = no_more (same_sort Profiled (sort_at s.sort)) _ s _ t.profiled_count (ap (same_sort Profiled) e);
      losses_count = one_more (same_sort Losses (sort_at s.sort)) _ s _ t.losses_count (ap (same_sort Losses) e);
      profiled_most = t.profiled_most;
      losses_most = next;
    }

grown_number : (z : Sort) (v : ℤ) (a : Account) → (grown_by z v a).number ≡ a.number
grown_number Profiled v a = refl
grown_number Losses v a = refl

-- One step more for the account a, and none for the others.
one_load : (k a : ℕ) (s : Step) (steps : List Step) → k ≡ a → cond (eqb k a) (s ∷ []) [] ++ steps ≡ s ∷ steps
one_load k a s steps e = ap (λ (new : List Step). new ++ steps) (cond-true (eqb k a) (s ∷ []) [] (eq-eqb k a e))

no_load : (k a : ℕ) (s : Step) (steps : List Step) → k ≢ a → cond (eqb k a) (s ∷ []) [] ++ steps ≡ steps
no_load k a s steps ne = ap (λ (new : List Step). new ++ steps) (cond-false (eqb k a) (s ∷ []) [] (ne_eqb k a ne))

module _ (n : ℕ) (xs : List Account) (Open : ℕ → Type 0) (steps : ℕ → List Step) (tell : AccountsTell n xs Open steps) where
  pub free_not_open : (a : ℕ) → lookup account_number a xs ≡ None → Open a → ⊥
  free_not_open a free o =
      let it = tell.listed a o in
      let found = lookup_member account_number a xs it.0 tell.numbered.0 it.1 it.2 in
      let z : ◌≡◌ {A = ℕ} 0 1 = cc in omega arith

  pub accounts_opened : (a : ℕ) → 1 ≤ a → a ≤ 64 → lookup account_number a xs ≡ None → AccountsTell n (inserted account_number (new_account a) xs) (λ k. (k ≡ a) ⊎ Open k) steps
  accounts_opened a low high free =
      let has = λ (x : Account). (member_inserted account_number (new_account a) xs x).1 in
      let new : RecordTells n (steps a) (new_account a) = subst (λ (ss : List Step). RecordTells n ss (new_account a)) (sym (tell.unopened a (free_not_open a free))) (new_tells n a) in
      record {
        numbered = numbered_inserted account_number 64 (new_account a) xs tell.numbered low high free;
        so = each_inserted account_number xs (λ x. (x.number ≡ a) ⊎ Open x.number) (new_account a) (inl refl) (λ x m. inr (tell.so x m));
        listed = λ k o. ⊎_elim (λ e. (new_account a, has (new_account a) (inl refl), sym e)) (λ t. let it = tell.listed k t in (it.0, has it.0 (inr it.1), it.2)) o;
        told = each_inserted account_number xs (λ x. RecordTells n (steps x.number) x) (new_account a) new tell.told;
        unopened = λ k out. tell.unopened k (λ o. out (inr o));
      }

  pub accounts_loaded : (a : ℕ) (s : Step) (old : Account) → lookup account_number a xs ≡ Some old → steps_loaded (sort_at s.sort) old + 1 ≤ n
      → AccountsTell n (replaced account_number (grown old s) xs) Open (λ k. cond (eqb k a) (s ∷ []) [] ++ steps k)
  accounts_loaded a s old found next =
      record {
        numbered = numbered_replaced account_number 64 r xs tell.numbered;
        so = each_replaced account_number xs (λ x. Open x.number) r (subst Open (sym number) open_a) old tell.numbered.0 there (λ x m _. tell.so x m);
        listed = λ k o.
            let it = tell.listed k o in
            ⊎_elim
            (λ (e : it.0.number ≡ r.number). (r, has r (inl refl), sym e ∙ it.2))
            (λ (ne : it.0.number ≡ r.number → ⊥). (it.0, has it.0 (inr (it.1, ne)), it.2))
            (cases_eq it.0.number r.number);
        told = each_replaced account_number xs (λ x. RecordTells n (loaded x.number) x) r new old tell.numbered.0 there others;
        unopened = λ k out. no_load k a s (steps k) (λ e. out (subst Open (sym e) open_a)) ∙ tell.unopened k out;
      }
    where
      r : Account
      r = grown old s

      loaded : ℕ → List Step
      loaded k = cond (eqb k a) (s ∷ []) [] ++ steps k

      was : Member old xs × (old.number ≡ a)
      was = lookup_has account_number a xs old found

      open_a : Open a
      open_a = subst Open was.1 (tell.so old was.0)

      same : r.number ≡ old.number
      same = grown_number (sort_at s.sort) (step_adds s) old

      number : r.number ≡ a
      number = same ∙ was.1

      there : lookup account_number r.number xs ≡ Some old
      there = ap (λ (k : ℕ). lookup account_number k xs) number ∙ found

      has : (x : Account) → (x ≡ r) ⊎ (Member x xs × (x.number ≢ r.number)) → Member x (replaced account_number r xs)
      has x = (member_replaced account_number r xs old x tell.numbered.0 there).1

      new : RecordTells n (loaded r.number) r
      new =
          subst (λ (ss : List Step). RecordTells n ss r) (sym (one_load r.number a s (steps r.number) number ∙ ap (λ (k : ℕ). s ∷ steps k) same))
          (grown_tells n old s (steps old.number) (sort_at s.sort) refl next (tell.told old was.0))

      others : (x : Account) → Member x xs → x.number ≢ r.number → RecordTells n (loaded x.number) x
      others x m ne = subst (λ (ss : List Step). RecordTells n ss x) (sym (no_load x.number a s (steps x.number) (λ e. ne (e ∙ sym number)))) (tell.told x m)
