-- The prices of a settle call, judged.
use Rattle.std.specs.Prelude.{ℕ, [], ◌∷◌, Result}
use Rattle.curves.specs.declared.ranges.OutOfRange.{OutOfRange}
use Rattle.curves.specs.Ranges.{judged}
use Rattle.rules.specs.Judgement.{price_fine}

abbrev pub prices_judged : ℕ → ℕ → Result (ℕ × ℕ) OutOfRange
prices_judged shortage surplus = judged 1 (price_fine shortage ∷ price_fine surplus ∷ []) (shortage, surplus)
