-- The walk over the accounts 1 to 64 in search of one that holds something.
use Rattle.std.proofs.Common.{◌≡◌, ℕ, suc, ◌+◌, ◌-◌, ◌<◌, ◌≤◌, Bool, true, false, cond, not, eqb, Some, None, Option, sym, refl, ap, ◌∙◌, arith}
use Rattle.std.proofs.lemmas.Bool.{cond-true, cond-false}
use Rattle.rules.specs.Judgement.{lowest_holder}

-- what the walk finds from the account a on
at_account : (f : ℕ → ℕ) (a : ℕ) (found : Option ℕ) → a < 65 → lowest_holder f (65 - a) a ≡ found → found ≡ cond (eqb (f a) 0) (lowest_holder f (65 - (a + 1)) (a + 1)) (Some a)
unfolding lowest_holder
at_account f a found lt is =
    let more : 65 - a ≡ suc (65 - (a + 1)) = omega arith in
    sym is ∙ ap (λ (n : ℕ). lowest_holder f n a) more

holds_none : (x : ℕ) → not (eqb x 0) ≡ false → eqb x 0 ≡ true
holds_none x is = go (eqb x 0) is
  where
    go : (b : Bool) → not b ≡ false → b ≡ true
    go true e = refl
    go false e = sym e

holds_some : (x : ℕ) → not (eqb x 0) ≡ true → eqb x 0 ≡ false
holds_some x is = go (eqb x 0) is
  where
    go : (b : Bool) → not b ≡ true → b ≡ false
    go true e = sym e
    go false e = refl

pub passed_by : (f : ℕ → ℕ) (a : ℕ) (found : Option ℕ) → a < 65 → lowest_holder f (65 - a) a ≡ found → not (eqb (f a) 0) ≡ false → lowest_holder f (65 - (a + 1)) (a + 1) ≡ found
passed_by f a found lt is none = sym (at_account f a found lt is ∙ cond-true (eqb (f a) 0) _ _ (holds_none (f a) none))

pub found_at : (f : ℕ → ℕ) (a : ℕ) (found : Option ℕ) → a < 65 → lowest_holder f (65 - a) a ≡ found → not (eqb (f a) 0) ≡ true → Some a ≡ found
found_at f a found lt is some = sym (at_account f a found lt is ∙ cond-false (eqb (f a) 0) _ _ (holds_some (f a) some))

pub found_nowhere : (f : ℕ → ℕ) (a : ℕ) (found : Option ℕ) → 65 ≤ a → lowest_holder f (65 - a) a ≡ found → None ≡ found
unfolding lowest_holder
found_nowhere f a found le is =
    let done : 65 - a ≡ 0 = omega arith in
    sym (ap (λ (n : ℕ). lowest_holder f n a) done) ∙ is
