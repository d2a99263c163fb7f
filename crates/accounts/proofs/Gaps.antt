-- The obligation of an account, and the gaps of all of them.
use Rattle.std.proofs.Common.{◌≡◌, ℕ, suc, ◌+◌, ◌*◌, ◌<◌, ◌≤◌, List, [], ◌∷◌, ◌++◌, map, length, get_or, take, ℤ, pos, ◌-ℤ◌, nat_abs, Some, Ok, sym, ap, ◌∙◌, ⊎_elim, arith}
use Rattle.std.specs.List.{ContainsAt}
use Rattle.std.proofs.lemmas.List.{length-map, length-take-le, map_more}
use Rattle.std.proofs.lemmas.Bool.{le-leb}
use Rattle.registers.specs.Rows.{lookup}
use Rattle.registers.specs.Laws.{Member}
use Rattle.registers.proofs.Members.{lookup_has}
use Rattle.curves.specs.Obligations.{most_added, obligation_in_guarantees, obligation_of as obligation_judged}
use Rattle.settlement.specs.Rules.{most_gaps}
use Rattle.settlement.specs.Tallies.{Fine}
use Rattle.settlement.specs.Sheets.{entering, entered}
use Rattle.settlement.proofs.Entries.{fine_gap_counts, fine_gap_entered}
use Rattle.rules.specs.declared.records.Account.{Account}
use Rattle.rules.specs.Records.{account_number}
use Rattle.rules.specs.declared.calls.Statement.{Statement}
use Rattle.rules.specs.Settling.{obligation_of, gap_of, gaps_of}

-- an obligation within the terms is not refused
pub obligation_made : (n security : ℕ) (sum : ℤ) → (1 ≤ n) × (n ≤ 400) × (security ≤ 2000) → nat_abs sum ≤ n * (2 * most_added) → obligation_judged n security sum ≡ Ok (obligation_in_guarantees n security sum)
obligation_made n security sum terms most =
    rw (le-leb 1 n terms.0, le-leb n 400 terms.1, le-leb security 2000 terms.2, le-leb (nat_abs sum) 1000000000000000000 (omega arith))

module _ (n security : ℕ) (f : ℕ → ℕ) (accounts : List Account) where
  -- there is room for the gap of each account
  room_for_next : (i : ℕ) → i < length accounts → length accounts ≤ 64 → length (gaps_of n security f (take i accounts)) < most_gaps
  room_for_next i within few = omega (arith, length-map (take i accounts) (gap_of n security f), length-take-le i accounts (omega arith))

  pub next_gap_counts : (i : ℕ) (gap : ℤ) → i < length accounts → length accounts ≤ 64 → Fine gap → entering (gaps_of n security f (take i accounts)) gap ≡ Ok (length (gaps_of n security f (take i accounts)) + 1)
  next_gap_counts i gap within few fine = fine_gap_counts (gaps_of n security f (take i accounts)) gap fine (room_for_next i within few)

  pub next_gap_entered : (i : ℕ) (d : Account) (gap : ℤ) → i < length accounts → length accounts ≤ 64 → Fine gap → gap ≡ gap_of n security f (get_or accounts i d) → entered (gaps_of n security f (take i accounts)) gap ≡ gaps_of n security f (take (i + 1) accounts)
  next_gap_entered i d gap within few fine is =
      fine_gap_entered (gaps_of n security f (take i accounts)) gap fine (room_for_next i within few)
      ∙ ap (λ (z : ℤ). gaps_of n security f (take i accounts) ++ z ∷ []) is
      ∙ sym (map_more (gap_of n security f) accounts i d within)

has_member : {X Y : Type 0} (f : X → Y) (xs : List X) (x : X) → Member x xs → ContainsAt (map f xs) (f x)
has_member f [] x member = absurd member
has_member f (y ∷ ys) x member =
    ⊎_elim (λ e. (0, omega arith, λ d. ap f (sym e))) (λ later. let has = has_member f ys x later in (suc has.0, omega (arith, has.1), has.2)) member

-- the gap of an account that is found is among the gaps
pub gap_among : (n security : ℕ) (f : ℕ → ℕ) (accounts : List Account) (a : Account) → lookup account_number a.number accounts ≡ Some a → ContainsAt (gaps_of n security f accounts) (gap_of n security f a)
gap_among n security f accounts a found = has_member (gap_of n security f) accounts a (lookup_has account_number a.number accounts a found).0

pub gap_from : (n security : ℕ) (f : ℕ → ℕ) (a : Account) (holding obligation : ℕ) (gap : ℤ) → holding ≡ f a.number → obligation ≡ obligation_of n security a → gap ≡ pos holding -ℤ pos obligation → gap ≡ gap_of n security f a
gap_from n security f a holding obligation gap held due is = cc

pub same_statement : (s : Statement) (holding obligation : ℕ) (gap sum : ℤ) → holding ≡ s.holding → obligation ≡ s.obligation → gap ≡ s.gap → sum ≡ s.amount → ◌≡◌ {A = Statement} (record { holding = holding; obligation = obligation; gap = gap; amount = sum }) s
same_statement s holding obligation gap sum held due is paid = λ i. record { holding = held i; obligation = due i; gap = is i; amount = paid i }
