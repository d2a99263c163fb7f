-- What is said of an answer that comes from checks: P of an accepted reply, and of a refusal that it is one of those that come up.
use Rattle.std.proofs.Common.{◌≡◌, ℕ, ◌+◌, ◌-◌, ◌≤◌, Bool, true, cond, eqb, ltb, leb, List, [], ◌∷◌, Some, None, Ok, Err, Option, Result, refl, arith}
use Rattle.std.specs.List.{AllByRecursion}
use Rattle.std.proofs.lemmas.Bool.{cond_both, both_ways, le-leb, leb-true, ltb-true, ltb-false, eqb-true, eqb-false}
use Rattle.ledger.specs.declared.fault.LedgerFault.{LedgerFault}
use Rattle.ledger.specs.declared.fault.LedgerFault.TheVariants.{NoSuchAccount, NoAmount, NoPostsLeft, BeyondHolding, PastLimit}
use Rattle.ledger.specs.Rules.{limit, known, posting, crediting, debiting}
use Rattle.rules.specs.declared.calls.Reply.{Reply}
use Rattle.rules.specs.declared.calls.Reply.TheVariants.{Level}
use Rattle.rules.specs.declared.faults.RegistryFault.{RegistryFault}
use Rattle.rules.specs.declared.faults.RegistryFault.TheVariants.{OutOfRange}
use Rattle.rules.specs.Judgement.{Answer, Check, walk, in_range, passed_on, unless, levelling}
use Rattle.law.specs.Law.{RefusedSo}

abbrev pub Says : (Reply → Type 0) → Answer → Type 0
Says P (Ok w) = P w
Says P (Err fault) = RefusedSo fault

pub says_weaker : (P Q : Reply → Type 0) → ((w : Reply) → P w → Q w) → (r : Answer) → Says P r → Says Q r
says_weaker P Q weaker (Ok w) says = weaker w says
says_weaker P Q weaker (Err fault) says = says

-- Every check of a list passed.
abbrev pub Passed : List Check → Type 0
Passed checks = AllByRecursion (λ check. check.0 ≡ true) checks

abbrev pub InRange : List Bool → Type 0
InRange fields = AllByRecursion (λ fine. fine ≡ true) fields

module _ (P : Reply → Type 0) where
  pub says_if : (fine : Bool) (later : Answer) (fault : RegistryFault) → RefusedSo fault → (fine ≡ true → Says P later) → Says P (cond fine later (Err fault))
  says_if fine later fault so says = cond_both fine later (Err fault) (Says P) says (λ _. so)

  pub says_in_range : (place : ℕ) (fields : List Bool) (later : Answer) → (InRange fields → Says P later) → Says P (in_range place fields later)
  says_in_range place [] later says = says tt
  says_in_range place (fine ∷ fields) later says =
      says_if fine (in_range (place + 1) fields later) (OutOfRange place) tt (λ e. says_in_range (place + 1) fields later (λ rest. says (e, rest)))

  pub says_walk : (checks : List Check) (later : Answer) → AllByRecursion (λ check. RefusedSo check.1) checks → (Passed checks → Says P later) → Says P (walk checks later)
  says_walk [] later so says = says tt
  says_walk (check ∷ checks) later so says = says_if check.0 (walk checks later) check.1 so.0 (λ e. says_walk checks later so.1 (λ rest. says (e, rest)))

  pub says_unless : (found : Option ℕ) (fault : ℕ → RegistryFault) (later : Answer) → ((a : ℕ) → found ≡ Some a → RefusedSo (fault a)) → (found ≡ None → Says P later) → Says P (unless found fault later)
  says_unless None fault later so says = says refl
  says_unless (Some a) fault later so says = so a refl

  module _ (reply : ℕ → Reply) where
    -- A post by a known account of an amount that is not 0 has posts left or is refused for want of them.
    says_posted : (m a x : ℕ) (own : Result ℕ LedgerFault) → known a ≡ true → 1 ≤ x → Says P (passed_on reply own) → Says P (passed_on reply (posting m a x own))
    says_posted m a x own is_known some says =
        cond_both (known a) _ (Err (NoSuchAccount a)) (λ r. Says P (passed_on reply r))
        (λ _. cond_both (leb 1 x) _ (Err (NoAmount a)) (λ r. Says P (passed_on reply r))
        (λ _. cond_both (leb 1 m) own (Err (NoPostsLeft a)) (λ r. Says P (passed_on reply r)) (λ _. says) (λ _. tt))
        (λ e. absurd (both_ways (leb 1 x) e (le-leb 1 x some))))
        (λ e. absurd (both_ways (known a) e is_known))

    pub says_credited : (f : ℕ → ℕ) (m a x : ℕ) → known a ≡ true → 1 ≤ x → f a + x ≤ limit → P (reply (f a + x)) → Says P (passed_on reply (crediting f m a x))
    says_credited f m a x is_known some room says =
        says_posted m a x _ is_known some
        (cond_both (leb (f a + x) limit) (Ok (f a + x)) (Err (PastLimit a)) (λ r. Says P (passed_on reply r)) (λ _. says) (λ e. absurd (both_ways (leb (f a + x) limit) e (le-leb (f a + x) limit room))))

    pub says_debited : (f : ℕ → ℕ) (m a x : ℕ) → known a ≡ true → 1 ≤ x → (x ≤ f a → P (reply (f a - x))) → Says P (passed_on reply (debiting f m a x))
    says_debited f m a x is_known some says =
        says_posted m a x _ is_known some
        (cond_both (leb x (f a)) (Ok (f a - x)) (Err (BeyondHolding a)) (λ r. Says P (passed_on reply r)) (λ e. says (leb-true x (f a) e)) (λ _. tt))

  pub says_levelled : (f : ℕ → ℕ) (m a old new : ℕ) → known a ≡ true → f a + new ≤ limit → (old - new ≤ f a → P (Level new)) → Says P (levelling f m a old new)
  says_levelled f m a old new is_known room says =
      cond_both (eqb new old) (Ok (Level new)) (passed_on (λ _. Level new) (cond (ltb old new) (crediting f m a (new - old)) (debiting f m a (old - new)))) (Says P)
      (λ e. says (omega (arith, eqb-true new old e)))
      (λ e. let other = eqb-false new old e in
      cond_both (ltb old new) (crediting f m a (new - old)) (debiting f m a (old - new)) (λ r. Says P (passed_on (λ _. Level new) r))
      (λ l. let lt = ltb-true old new l in says_credited (λ _. Level new) f m a (new - old) is_known (omega arith) (omega arith) (says (omega arith)))
      (λ l. let le = ltb-false old new l in says_debited (λ _. Level new) f m a (old - new) is_known (omega arith) says))
