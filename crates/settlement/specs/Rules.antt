-- The settlement of a list of gaps at two prices. Gaps are in guarantees, prices and money in cents.
use Rattle.std.specs.Prelude.{ℕ, ◌+◌, ◌-◌, ◌*◌, ◌/◌, ◌<◌, ◌≤◌, min, Bool, cond, ◌&&◌, List, map, ℤ, pos, negsuc, ◌+ℤ◌, neg_ℤ, fold, sum_by, ◌==◌, nat_le}

-- The highest price (the book's own).
abbrev pub highest_price : ℕ
highest_price = 9999999

-- The widest gap below 0 (the book's own).
abbrev pub widest_shortage : ℕ
widest_shortage = 999999999

-- The widest gap above 0 (the book's own).
abbrev pub widest_surplus : ℕ
widest_surplus = 99999999

-- The most gaps on one sheet: one for each account (the book's own).
abbrev pub most_gaps : ℕ
most_gaps = 64

-- What a gap, holding less obligation, falls short of 0 (5.6.1.1).
abbrev pub shortage : ℤ → ℕ
shortage (pos n) = 0
shortage (negsuc n) = n + 1

-- What a gap has above 0 (5.6.1.1).
abbrev pub surplus : ℤ → ℕ
surplus (pos n) = n
surplus (negsuc n) = 0

-- A gap is fine if it is no wider than the widest.
abbrev pub gap_fine : ℤ → Bool
gap_fine gap = nat_le (shortage gap) widest_shortage && nat_le (surplus gap) widest_surplus

-- The sum of the shortages.
abbrev pub total_shortage : List ℤ → ℕ
total_shortage gaps = sum_by shortage gaps

-- The sum of the surpluses.
abbrev pub total_surplus_of : List ℤ → ℕ
total_surplus_of gaps = sum_by surplus gaps

-- What the shortages owe at the shortage price (5.6.1.2).
abbrev pub collected : ℕ → List ℤ → ℕ
collected shortage_price gaps = total_shortage gaps * shortage_price

-- What a price pays out to the surpluses.
abbrev pub pays_out : List ℤ → ℕ → ℕ
pays_out gaps price = total_surplus_of gaps * price

-- The quoted price, or the money over the guarantees, rounded down, where that is smaller; the quoted price for no guarantees.
abbrev pub price_within : ℕ → ℕ → ℕ → ℕ
price_within money guarantees quoted = cond (guarantees == 0) quoted (min quoted (money / guarantees))

-- The price at which surpluses are paid: what is collected limits it (5.6.2.2).
abbrev pub paid_price_of : ℕ → ℕ → List ℤ → ℕ
paid_price_of shortage_price surplus_price gaps =
    price_within (collected shortage_price gaps) (total_surplus_of gaps) surplus_price

-- What the paid price pays out.
abbrev pub paid : ℕ → ℕ → List ℤ → ℕ
paid shortage_price surplus_price gaps = pays_out gaps (paid_price_of shortage_price surplus_price gaps)

-- What is collected and not paid out.
abbrev pub balance : ℕ → ℕ → List ℤ → ℕ
balance shortage_price surplus_price gaps = collected shortage_price gaps - paid shortage_price surplus_price gaps

-- What a gap receives, below 0 what it owes: a gap above 0 at the paid price, one below 0 at the shortage price (5.6.1.2).
abbrev pub amount : ℕ → ℕ → ℤ → ℤ
amount shortage_price price (pos n) = pos (n * price)
amount shortage_price price (negsuc n) = neg_ℤ (pos ((n + 1) * shortage_price))

-- The amounts of all gaps.
abbrev pub amounts : ℕ → ℕ → List ℤ → List ℤ
amounts shortage_price surplus_price gaps = map (amount shortage_price (paid_price_of shortage_price surplus_price gaps)) gaps

-- The sum of amounts.
abbrev pub total_amount : List ℤ → ℤ
total_amount sums = fold ◌+ℤ◌ (pos 0) sums

-- A price is fair if it keeps to the quoted surplus price, pays out no more than is collected (5.6.2.2),
-- and any higher price in whole cents, up to the quoted one, would pay out more than is collected.
pub record Fair (shortage_price surplus_price : ℕ) (gaps : List ℤ) (price : ℕ) : Type 0 where
  pub within_quote : price ≤ surplus_price
  pub covered : pays_out gaps price ≤ collected shortage_price gaps
  pub highest : (higher : ℕ) → price < higher → higher ≤ surplus_price → collected shortage_price gaps < pays_out gaps higher
