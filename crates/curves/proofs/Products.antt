-- Sizes of products.
use Rattle.std.proofs.Common.{◌≡◌, ℕ, ◌*◌, ◌<◌, ◌≤◌, ℤ, ◌*ℤ◌, nat_abs, lt_of_le_of_lt, arith}
use Rattle.std.proofs.lemmas.Nat.{mul-le}
use Rattle.std.proofs.lemmas.Int.{unsigned_abs-mul}

pub product_below : {a b k : ℕ} (m n : ℕ) → a ≤ m → b ≤ n → m * n < k → a * b < k
product_below {a} {b} m n h i j = lt_of_le_of_lt (mul-le a b m n h i) j

pub product_most : {a b r : ℕ} (m n : ℕ) → r ≡ a * b → a ≤ m → b ≤ n → r ≤ m * n
product_most {a} {b} m n e h i = omega (arith, e, mul-le a b m n h i)

pub size_of_product : (a b : ℤ) → nat_abs (a *ℤ b) ≡ nat_abs a * nat_abs b
size_of_product a b = unsigned_abs-mul a b

pub products_most : (a b d : ℤ) (l m n : ℕ) → nat_abs a ≤ l → nat_abs b ≤ m → nat_abs d ≤ n → nat_abs (a *ℤ b *ℤ d) ≤ l * m * n
products_most a b d l m n h i j =
    product_most (l * m) n (size_of_product (a *ℤ b) d) (product_most l m (size_of_product a b) h i) j
