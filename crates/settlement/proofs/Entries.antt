-- Entering a fine gap.
use Rattle.std.proofs.Common.{◌≡◌, ℕ, ◌+◌, ◌<◌, List, [], ◌∷◌, ◌++◌, length, ℤ, None, Ok}
use Rattle.std.proofs.lemmas.Bool.{lt-ltb}
use Rattle.settlement.specs.Rules.{most_gaps}
use Rattle.settlement.specs.Tallies.{Fine}
use Rattle.settlement.specs.Sheets.{gap_fault, entering, entered}

-- a fine gap with room for it is accepted
pub fine_gap_accepted : (count : ℕ) (gap : ℤ) → Fine gap → count < most_gaps → gap_fault count gap ≡ None
fine_gap_accepted count gap fine room = rw (fine, lt-ltb count most_gaps room)

pub fine_gap_counts : (gaps : List ℤ) (gap : ℤ) → Fine gap → length gaps < most_gaps → entering gaps gap ≡ Ok (length gaps + 1)
fine_gap_counts gaps gap fine room = rw (fine_gap_accepted (length gaps) gap fine room)

pub fine_gap_entered : (gaps : List ℤ) (gap : ℤ) → Fine gap → length gaps < most_gaps → entered gaps gap ≡ gaps ++ gap ∷ []
fine_gap_entered gaps gap fine room = rw (fine_gap_accepted (length gaps) gap fine room)
