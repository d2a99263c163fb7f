-- What kept records say of each account, and how many there are.
use Rattle.std.proofs.Common.{◌≡◌, ℕ, ◌<◌, ◌≤◌, List, [], ◌∷◌, length, get_or, Some, None, Option, refl, arith, lit<, lit≤}
use mathlib.Core.HLevel.{×_prop}
use mathlib.Core.Logic.{∥∥₁_elim}
use native.Mathlib.Bridge.{le_prop}
use Rattle.std.specs.List.{AllByRecursion}
use Rattle.std.proofs.ByRecursion.{All-get_or, All-weaker}
use Rattle.registers.specs.Rows.{Above, Within, Numbered, lookup}
use Rattle.registers.proofs.Members.{lookup_has, all_member}
use Rattle.registers.proofs.Entries.{place_for}
use Rattle.rules.specs.declared.records.Account.{Account}
use Rattle.rules.specs.Records.{account_number}
use Rattle.accounts.specs.Bounds.{Bounded, Sound, Kept}

sound_prop : (n : ℕ) (a : Account) → IsProp (Sound n a)
sound_prop n a s t = λ i. (le_prop s.0 t.0 i, le_prop s.1 t.1 i, ×_prop le_prop le_prop s.2 t.2 i, ×_prop le_prop le_prop s.3 t.3 i)

all_sound : (n : ℕ) (accounts : List Account) → Above account_number 0 accounts → Within account_number 64 accounts → AllByRecursion (λ a. Bounded n a.profiled × Bounded n a.losses) accounts → AllByRecursion (Sound n) accounts
all_sound n [] low high bounded = tt
all_sound n (a ∷ accounts) low high bounded = ((low.0, high.0, bounded.0.0, bounded.0.1), all_sound n accounts low.1 high.1 bounded.1)

kept_sound : (n : ℕ) (accounts : List Account) → Kept n accounts → AllByRecursion (Sound n) accounts
kept_sound n accounts kept = all_sound n accounts kept.0.1 kept.0.2 kept.1

pub sound_at : (n : ℕ) (accounts : List Account) (i : ℕ) (d : Account) → ∥ Kept n accounts ∥₁ → i < length accounts → Sound n (get_or accounts i d)
sound_at n accounts i d kept within = ∥∥₁_elim kept (sound_prop n (get_or accounts i d)) (λ k. All-get_or (Sound n) accounts i d within (kept_sound n accounts k))

pub sound_found : (n : ℕ) (accounts : List Account) (a : Account) → ∥ Kept n accounts ∥₁ → lookup account_number a.number accounts ≡ Some a → Sound n a
sound_found n accounts a kept found = ∥∥₁_elim kept (sound_prop n a) (λ k. all_member (Sound n) accounts a (kept_sound n accounts k) (lookup_has account_number a.number accounts a found).0)

-- what is nothing that it could be is not there
absent : {X : Type 0} (o : Option X) → ((x : X) → o ≡ Some x → ⊥) → o ≡ None
absent None never = refl
absent (Some x) never = absurd (never x refl)

-- no account has the number 65, so that there are fewer than 65
pub at_most_64 : (n : ℕ) (accounts : List Account) → ∥ Kept n accounts ∥₁ → length accounts ≤ 64
at_most_64 n accounts kept = ∥∥₁_elim kept le_prop (λ k. few k.0)
  where
    few : Numbered account_number 64 accounts → length accounts ≤ 64
    few numbered =
        let none = absent (lookup account_number 65 accounts) (λ a found. let has = lookup_has account_number 65 accounts a found in let low = all_member _ accounts a numbered.2 has.0 in let is = has.1 in omega arith) in
        let fewer = place_for account_number 65 65 accounts (numbered.0, numbered.1, All-weaker _ _ (λ a le. omega arith) accounts numbered.2) (lit< tt) (lit≤ tt) none in
        omega arith
