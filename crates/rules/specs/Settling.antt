-- Obligations, gaps and the settlement, from the year and the holdings.
use Rattle.std.specs.Prelude.{ℕ, Bool, cond, ◌&&◌, ◌||◌, List, [], ◌∷◌, map, ℤ, pos, ◌+ℤ◌, ◌-ℤ◌, Some, None, Option, nat_lt}
use Rattle.curves.specs.Obligations.{obligation_in_guarantees}
use Rattle.settlement.specs.Rules.{paid_price_of, amount}
use Rattle.rules.specs.declared.records.Series.{Series}
use Rattle.rules.specs.declared.records.Account.{Account}
use Rattle.settlement.specs.declared.Settlement.{Settlement}
use Rattle.settlement.specs.Whole.{figures}
use Rattle.rules.specs.declared.calls.Statement.{Statement}

-- A series begun and not complete, and the lowest account with one.
abbrev pub begun_not_complete : ℕ → Series → Bool
begun_not_complete n s = nat_lt 0 s.loaded && nat_lt s.loaded n

abbrev pub is_incomplete : ℕ → Account → Bool
is_incomplete n a = begun_not_complete n a.profiled || begun_not_complete n a.losses

abbrev pub first_incomplete : ℕ → List Account → Option ℕ
first_incomplete n [] = None
first_incomplete n (a ∷ accounts) = cond (is_incomplete n a) (Some a.number) (first_incomplete n accounts)

-- The obligation of an account in a year of n half-hours, from both its series (5.2.1.2, 5.2.4).
abbrev pub obligation_of : ℕ → ℕ → Account → ℕ
obligation_of n security a = obligation_in_guarantees n security (a.profiled.sum +ℤ a.losses.sum)

-- Holding less obligation (5.6.1.1), where f are the holdings.
abbrev pub gap_of : ℕ → ℕ → (ℕ → ℕ) → Account → ℤ
gap_of n security f a = pos (f a.number) -ℤ pos (obligation_of n security a)

abbrev pub gaps_of : ℕ → ℕ → (ℕ → ℕ) → List Account → List ℤ
gaps_of n security f accounts = map (gap_of n security f) accounts

-- The figures of the year for these gaps, at a shortage price u and a surplus price v.
abbrev pub settlement_of : ℕ → ℕ → List ℤ → Settlement
settlement_of u v gaps = figures u v gaps

-- What an account is told after settling: its gap is paid, or owed, like the others.
abbrev pub statement_of : ℕ → ℕ → ℕ → ℕ → (ℕ → ℕ) → List Account → Account → Statement
statement_of n security u v f accounts a =
    record {
      holding = f a.number;
      obligation = obligation_of n security a;
      gap = gap_of n security f a;
      amount = amount u (paid_price_of u v (gaps_of n security f accounts)) (gap_of n security f a);
    }
