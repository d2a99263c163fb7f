-- Sums over the accounts, and over lists.
use Rattle.std.proofs.Common.{◌≡◌, ℕ, zero, suc, ◌+◌, ◌-◌, ◌<◌, ◌≤◌, Bool, true, false, cond, eqb, List, [], ◌∷◌, map, None, sum_by, sym, refl, ap, ⊎_elim, arith}
use Rattle.std.proofs.lemmas.List.Sums.{sum_by-cons}
use Rattle.std.proofs.lemmas.Bool.{cases_eq, cond-true, cond-false, eq-eqb, ne_eqb, eqb-true}
use Rattle.std.proofs.lemmas.Bool.Decides.{nat_tests}
use Rattle.registers.specs.Rows.{Above, Within, Rising, Numbered, lookup}
use Rattle.rules.specs.Facts.{to}
use Rattle.law.specs.Law.{total}

pub total_plus : (f g h : ℕ → ℕ) (n : ℕ) → ((k : ℕ) → 1 ≤ k → k ≤ n → h k ≡ f k + g k) → total h n ≡ total f n + total g n
unfolding total
total_plus f g h zero e = refl
total_plus f g h (suc n) e =
    let before = total_plus f g h n (λ k low high. e k low (omega arith)) in
    let last = e (suc n) (omega arith) (omega arith) in
    omega arith

-- Where f is nothing after m, its total stays.
total_flat : (f : ℕ → ℕ) (m n : ℕ) → m ≤ n → ((k : ℕ) → m < k → k ≤ n → f k ≡ 0) → total f n ≡ total f m
unfolding total
total_flat f m zero le none = let e : 0 ≡ m = omega arith in ap (total f) e
total_flat f m (suc n) le none =
    ⊎_elim
    (λ (e : m ≡ suc n). ap (total f) (sym e))
    (λ (ne : m ≡ suc n → ⊥). omega (arith, total_flat f m n (omega arith) (λ k low high. none k low (omega arith)), none (suc n) (omega arith) (omega arith)))
    (cases_eq m (suc n))

pub total_zero : (f : ℕ → ℕ) (n : ℕ) → ((k : ℕ) → 1 ≤ k → k ≤ n → f k ≡ 0) → total f n ≡ 0
unfolding total
total_zero f n none = total_flat f 0 n (omega arith) none

to_same : (a v k : ℕ) → k ≡ a → to a v k ≡ v
to_same a v k e = cond-true (eqb k a) v 0 (eq-eqb k a e)

pub to_other : (a v k : ℕ) → (k ≡ a → ⊥) → to a v k ≡ 0
to_other a v k e = cond-false (eqb k a) v 0 (ne_eqb k a e)

pub total_to : (a v n : ℕ) → 1 ≤ a → a ≤ n → total (to a v) n ≡ v
unfolding total
total_to a v zero low high = omega arith
total_to a v (suc n) low high =
    ⊎_elim
    (λ (h : a ≡ suc n). omega (arith, total_zero (to a v) n (λ k l m. to_other a v k (λ q. omega (arith, q, h))), to_same a v (suc n) (sym h)))
    (λ (h : a ≡ suc n → ⊥). omega (arith, total_to a v n low (omega (arith, h)), to_other a v (suc n) (λ q. h (sym q))))
    (cases_eq a (suc n))

-- No account holds more than all.
pub total_le : (f : ℕ → ℕ) (n k : ℕ) → 1 ≤ k → k ≤ n → f k ≤ total f n
unfolding total
total_le f zero k low high = omega arith
total_le f (suc n) k low high =
    ⊎_elim
    (λ (h : k ≡ suc n). omega (arith, ap f h))
    (λ (h : k ≡ suc n → ⊥). omega (arith, total_le f n k low (omega (arith, h))))
    (cases_eq k (suc n))

-- One account is given v.
pub risen : (f g : ℕ → ℕ) (a v n : ℕ) → 1 ≤ a → a ≤ n → ((k : ℕ) → g k ≡ f k + to a v k) → total g n ≡ total f n + v
risen f g a v n low high e = omega (arith, total_plus f (to a v) g n (λ k l m. e k), total_to a v n low high)

-- One account gives v, which it has.
pub lower : (f : ℕ → ℕ) (a v k : ℕ) → v ≤ f a → f k ≡ (f k - to a v k) + to a v k
lower f a v k le = go (eqb k a) refl
  where
    go : (b : Bool) → eqb k a ≡ b → f k ≡ (f k - cond b v 0) + cond b v 0
    go true e = omega (arith, ap f (eqb-true k a e))
    go false e = omega arith

pub fallen : (f : ℕ → ℕ) (a v n : ℕ) → 1 ≤ a → a ≤ n → v ≤ f a → total f n ≡ total (λ k. f k - to a v k) n + v
fallen f a v n low high le = risen (λ k. f k - to a v k) f a v n low high (λ k. lower f a v k le)

pub sum_by_map : {X Y : Type 0} (f : Y → ℕ) (g : X → Y) (xs : List X) → sum_by f (map g xs) ≡ sum_by (λ x. f (g x)) xs
sum_by_map f g [] = refl
sum_by_map f g (x ∷ xs) = omega (arith, sum_by_map f g xs, sum_by-cons f (g x) (map g xs), sum_by-cons (λ x. f (g x)) x xs)

pub sum_by_zero : {X : Type 0} (xs : List X) → sum_by (λ _. 0) xs ≡ 0
sum_by_zero [] = refl
sum_by_zero (x ∷ xs) = sum_by_zero xs

total_next : (f : ℕ → ℕ) (m n : ℕ) → m < n → ((k : ℕ) → m < k → k < n → f k ≡ 0) → total f n ≡ total f m + f n
unfolding total
total_next f m zero lt none = absurd (omega arith)
total_next f m (suc n) lt none = let before = total_flat f m n (omega arith) (λ k low high. none k low (omega arith)) in omega arith

module _ {R : Type 0} (key : R → ℕ) where
  rest_total : (f : ℕ → ℕ) (m n : ℕ) (xs : List R) → m ≤ n → Above key m xs → Rising key xs → Within key n xs → ((k : ℕ) → m < k → k ≤ n → lookup key k xs ≡ None → f k ≡ 0) → total f m + sum_by f (map key xs) ≡ total f n
  rest_total f m n [] le above h within none = let e = total_flat f m n le (λ k low high. none k low high refl) in omega arith
  rest_total f m n (x ∷ xs) le above h within none =
      let low = above.0 in
      let high = within.0 in
      let here = total_next f m (key x) low (λ k after before. none k after (omega arith) (grind (arith, nat_tests))) in
      let rest = rest_total f (key x) n xs high h.0 h.1 within.1 (λ k after last missing. none k (omega arith) last (grind (arith, nat_tests))) in
      omega (arith, sum_by-cons f (key x) (map key xs))

  -- A sum over records numbered from 1 to n is the total over all of these numbers, if a number with no record has nothing.
  pub numbered_total : (f : ℕ → ℕ) (n : ℕ) (xs : List R) → Numbered key n xs → ((k : ℕ) → 1 ≤ k → k ≤ n → lookup key k xs ≡ None → f k ≡ 0) → sum_by f (map key xs) ≡ total f n
  unfolding total
  numbered_total f n xs h none = let e = rest_total f 0 n xs (omega arith) h.1 h.0 h.2 none in omega arith
