-- The paid price is the one fair price.
use Rattle.std.proofs.Common.{◌≡◌, ℕ, ◌+◌, ◌*◌, ◌/◌, ◌<◌, ◌≤◌, min, eqb, List, ℤ, ⊎_elim, mul-le-mul_left, arith}
use native.Mathlib.Nat.{mul-div-le, lt-mul-div-succ}
use Rattle.std.proofs.lemmas.Bool.{cond_both, eqb-true, eqb-false, cases_order}
use Rattle.std.proofs.lemmas.Bool.Decides.{nat_tests}
use Rattle.settlement.specs.Rules.{total_surplus_of, collected, price_within, paid_price_of, Fair}

pub price_within_quote : (money guarantees quoted : ℕ) → price_within money guarantees quoted ≤ quoted
price_within_quote money guarantees quoted = grind (arith, nat_tests)

pub price_within_money : (money guarantees quoted : ℕ) → guarantees * price_within money guarantees quoted ≤ money
price_within_money money guarantees quoted =
    cond_both (eqb guarantees 0) quoted (min quoted (money / guarantees)) (λ (price : ℕ). guarantees * price ≤ money)
    (λ none. rw (eqb-true guarantees 0 none) (omega arith))
    (λ some. omega (arith, mul-div-le money guarantees, mul-le-mul_left guarantees below))
  where
    below : min quoted (money / guarantees) ≤ money / guarantees
    below = omega arith

-- any higher price, up to the quoted one, is too high for the money
price_within_highest : (money guarantees quoted higher : ℕ) → price_within money guarantees quoted < higher → higher ≤ quoted → money < guarantees * higher
price_within_highest money guarantees quoted higher =
    cond_both (eqb guarantees 0) quoted (min quoted (money / guarantees)) (λ (price : ℕ). price < higher → higher ≤ quoted → money < guarantees * higher)
    (λ none above within. absurd (omega arith))
    (λ some above within. omega (arith, lt-mul-div-succ money (positive (eqb-false guarantees 0 some)), mul-le-mul_left guarantees (beyond above within)))
  where
    positive : ¬ (guarantees ≡ 0) → 0 < guarantees
    positive some = omega arith

    beyond : min quoted (money / guarantees) < higher → higher ≤ quoted → money / guarantees + 1 ≤ higher
    beyond above within = omega arith

pub paid_price_is_fair : (p q : ℕ) (gaps : List ℤ) → Fair p q gaps (paid_price_of p q gaps)
paid_price_is_fair p q gaps =
    record {
      within_quote = price_within_quote (collected p gaps) (total_surplus_of gaps) q;
      covered = price_within_money (collected p gaps) (total_surplus_of gaps) q;
      highest = price_within_highest (collected p gaps) (total_surplus_of gaps) q;
    }

-- two fair prices are one: the higher would pay out too much
pub one_fair_price : (p q : ℕ) (gaps : List ℤ) (a b : ℕ) → Fair p q gaps a → Fair p q gaps b → a ≡ b
one_fair_price p q gaps a b f g =
    ⊎_elim (λ same. same)
    (⊎_elim
    (λ less. absurd (omega (arith, f.highest b less g.within_quote, g.covered)))
    (λ more. absurd (omega (arith, g.highest a more f.within_quote, f.covered))))
    (cases_order a b)
