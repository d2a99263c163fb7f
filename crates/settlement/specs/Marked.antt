-- A settlement worked out by hand.
use Rattle.std.specs.Prelude.{◌≡◌, List, [], ◌∷◌, ℤ, pos, negsuc}
use Rattle.settlement.specs.Rules.{collected, paid_price_of, paid, balance, amounts}

-- A gap of 46 and one of -16.
abbrev pub marked_gaps : List ℤ
marked_gaps = pos 46 ∷ negsuc 15 ∷ []

-- At a shortage price of 1,000 and a surplus price of 900 cents.
pub record MarkedSettlement : Type 0 where
  pub price : paid_price_of 1000 900 marked_gaps ≡ 347
  pub owed : collected 1000 marked_gaps ≡ 16000
  pub received : paid 1000 900 marked_gaps ≡ 15962
  pub stays : balance 1000 900 marked_gaps ≡ 38
  pub each : amounts 1000 900 marked_gaps ≡ pos 15962 ∷ negsuc 15999 ∷ []
