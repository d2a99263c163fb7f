-- Balances that are all alike.
use Rattle.std.proofs.Common.{◌≡◌, ℕ, ◌-◌, ◌≤◌, Bool, true, false, cond, leb, replicate, refl, ◌∙◌, arith}
use Rattle.std.proofs.lemmas.List.{get_or-replicate}
use Rattle.std.proofs.lemmas.Bool.{and_parts, leb-true, cond_both}
use Rattle.ledger.specs.Rules.{limit, known}
use Rattle.ledger.specs.Holdings.{balances_holding}

-- the first way of a cond may be taken where its test is true
cond_then : (b : Bool) (x y z : ℕ) → (b ≡ true → x ≡ y) → cond b x z ≡ cond b y z
cond_then true x y z e = e refl
cond_then false x y z e = refl

-- a known account is from 1 to 64
within : (k : ℕ) → known k ≡ true → (1 ≤ k) × (k ≤ 64)
within k e = let parts = and_parts (leb 1 k) (leb k 64) e in (leb-true 1 k parts.0, leb-true k 64 parts.1)

-- each account holds the one balance
pub each_held : (held k : ℕ) → balances_holding (replicate 64 held) k ≡ cond (known k) held 0
each_held held k = cond_then (known k) _ held 0 (λ e. get_or-replicate 64 (k - 1) held 0 (omega (arith, within k e)))

pub none_held : (k : ℕ) → balances_holding (replicate 64 0) k ≡ 0
none_held k = each_held 0 k ∙ cond_both (known k) 0 0 (λ x. x ≡ 0) (λ _. refl) (λ _. refl)

-- and none holds more than the limit
pub each_capped : (held : ℕ) → held ≤ limit → (k : ℕ) → balances_holding (replicate 64 held) k ≤ limit
each_capped held l k = rw (each_held held k) (cond_both (known k) held 0 (λ x. x ≤ limit) (λ _. l) (λ _. omega arith))
