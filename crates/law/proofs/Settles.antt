-- What a settlement and a report answer, from the facts alone.
use Rattle.std.proofs.Common.{◌≡◌, ℕ, ◌≤◌, false, ◌⊎◌, List, [], ◌∷◌, map, length, ℤ, pos, ◌+ℤ◌, ◌-ℤ◌, Some, None, sum_by, Option, refl, ap, subst, inl, inr, arith}
use Rattle.std.specs.List.{AllByRecursion}
use Rattle.std.proofs.lemmas.Int.{ints}
use Rattle.std.proofs.lemmas.List.Sums.{sum_by-cons}
use Rattle.std.proofs.lemmas.Bool.{cond_both, or_parts}
use Rattle.std.proofs.lemmas.Bool.Decides.{nat_tests as tells}
use Rattle.registers.specs.Laws.{Member}
use Rattle.registers.proofs.Members.{all_member, lookup_has}
use Rattle.curves.specs.declared.obligations.Sort.{Sort}
use Rattle.curves.specs.declared.obligations.Sort.TheVariants.{Profiled, Losses}
use Rattle.curves.specs.declared.obligations.Step.{Step}
use Rattle.curves.specs.Obligations.{obligation_in_guarantees}
use Rattle.settlement.proofs.Prices.{paid_price_is_fair}
use Rattle.rules.specs.declared.records.Series.{Series}
use Rattle.rules.specs.declared.records.Account.{Account}
use Rattle.rules.specs.declared.calls.Reply.TheVariants.{Figures, Stated}
use Rattle.rules.specs.Records.{account_number, offered_amount}
use Rattle.rules.specs.Year.{account_in, is_trading}
use Rattle.rules.specs.Facts.{Fact}
use Rattle.rules.specs.Settling.{begun_not_complete, is_incomplete, first_incomplete, obligation_of, gap_of, gaps_of, settlement_of, statement_of}
use Rattle.law.specs.Law.{year, holds, loads, of_sort, loads_of_sort, under_offers, obligation, gap, gaps, open_accounts, Settling, Reported, sum_of}
use Rattle.law.proofs.Totals.{numbered_total}
use Rattle.law.proofs.Accounts.{RecordTells}
use Rattle.law.proofs.Kept.{Kept, not_opened_if}

-- The gaps of some accounts, with their obligations, are their holdings.
gaps_sum : (held due : ℕ → ℕ) (ns : List ℕ) → sum_of (map (λ k. pos (held k) -ℤ pos (due k)) ns) +ℤ pos (sum_by due ns) ≡ pos (sum_by held ns)
gaps_sum held due [] = refl
gaps_sum held due (n ∷ ns) = let rest = gaps_sum held due ns in omega (arith, ints, sum_by-cons held n ns, sum_by-cons due n ns)

-- The obligation and the gap that are worked out from a record that tells its steps are those of the history.
obligation_told : (fs : List Fact) (a : Account) → RecordTells (year fs).n (loads a.number fs) a → obligation_of (year fs).n (year fs).security a ≡ obligation a.number fs
unfolding obligation
obligation_told fs a tells = ap (obligation_in_guarantees (year fs).n (year fs).security) tells.sums

gap_told : (start : ℕ → ℕ) (fs : List Fact) (a : Account) → RecordTells (year fs).n (loads a.number fs) a → gap_of (year fs).n (year fs).security (holds start fs) a ≡ gap start fs a.number
gap_told start fs a tells = ap (λ (due : ℕ). pos (holds start fs a.number) -ℤ pos due) (obligation_told fs a tells)

-- Where no account is found incomplete, none is.
none_incomplete : (n : ℕ) (accounts : List Account) → first_incomplete n accounts ≡ None → AllByRecursion (λ a. is_incomplete n a ≡ false) accounts
none_incomplete n [] = λ _. tt
none_incomplete n (a ∷ accounts) =
    cond_both (is_incomplete n a) (Some a.number) (first_incomplete n accounts) (λ found. found ≡ None → AllByRecursion (λ a. is_incomplete n a ≡ false) (a ∷ accounts))
    (λ _ e. absurd (let z : ◌≡◌ {A = ℕ} 0 1 = cc in omega arith))
    (λ fine e. (fine, none_incomplete n accounts e))

-- So many steps are none, or one for each half-hour of the year.
abbrev EmptyOrWhole : ℕ → ℕ → Type 0
EmptyOrWhole n count = (count ≡ 0) ⊎ (count ≡ n)

empty_or_whole : (n : ℕ) (s : Series) → begun_not_complete n s ≡ false → s.loaded ≤ n → EmptyOrWhole n s.loaded
empty_or_whole n s fine most = grind (arith, tells)

account_whole : (n : ℕ) (a : Account) (steps : List Step) → RecordTells n steps a → is_incomplete n a ≡ false → (z : Sort) → EmptyOrWhole n (length (of_sort z steps))
account_whole n a steps tells fine Profiled =
    subst (EmptyOrWhole n) tells.profiled_count (empty_or_whole n a.profiled (or_parts _ (begun_not_complete n a.losses) fine).0 tells.profiled_most)
account_whole n a steps tells fine Losses =
    subst (EmptyOrWhole n) tells.losses_count (empty_or_whole n a.losses (or_parts (begun_not_complete n a.profiled) _ fine).1 tells.losses_most)

module _ (start : ℕ → ℕ) (fs : List Fact) (kept : Kept start fs) where
  gaps_told : gaps_of (year fs).n (year fs).security (holds start fs) (year fs).accounts ≡ gaps start fs
  gaps_told = each (year fs).accounts (λ a m. kept.accounts.told a m)
    where
      each : (xs : List Account) → ((a : Account) → Member a xs → RecordTells (year fs).n (loads a.number fs) a)
          → gaps_of (year fs).n (year fs).security (holds start fs) xs ≡ map (gap start fs) (map (λ a. a.number) xs)
      each [] told = refl
      each (a ∷ xs) told = let first = gap_told start fs a (told a (inl refl)) in let rest = each xs (λ b m. told b (inr m)) in cc

  -- Where no account is found incomplete, every series is empty or whole.
  series_whole : first_incomplete (year fs).n (year fs).accounts ≡ None → (k : ℕ) (z : Sort) → EmptyOrWhole (year fs).n (length (loads_of_sort z k fs))
  series_whole complete k z = by_account (account_in (year fs) k) refl
    where
      by_account : (found : Option Account) → account_in (year fs) k ≡ found → EmptyOrWhole (year fs).n (length (loads_of_sort z k fs))
      by_account None e = inl (ap (λ (steps : List Step). length (of_sort z steps)) (kept.accounts.unopened k (not_opened_if start fs kept k e)))
      by_account (Some x) e =
          let has = lookup_has account_number k (year fs).accounts x e in
          let fine = all_member _ (year fs).accounts x (none_incomplete (year fs).n (year fs).accounts complete) has.0 in
          subst (λ (i : ℕ). EmptyOrWhole (year fs).n (length (loads_of_sort z i fs))) has.1
          (account_whole (year fs).n x (loads x.number fs) (kept.accounts.told x has.0) fine z)

  pub settling : is_trading (year fs).stage ≡ false → first_incomplete (year fs).n (year fs).accounts ≡ None
      → (u v : ℕ) → Settling start fs u v (Figures (settlement_of u v (gaps_of (year fs).n (year fs).security (holds start fs) (year fs).accounts)))
  settling over complete u v =
      let add = gaps_sum (holds start fs) (λ k. obligation k fs) (open_accounts fs) in
      let all_held = numbered_total account_number (holds start fs) 64 (year fs).accounts kept.accounts.numbered (λ k low high free. kept.idle k low high (not_opened_if start fs kept k free)) in
      let no_offers : under_offers fs ≡ 0 = ap (sum_by offered_amount) (kept.over over) in
      let fair = paid_price_is_fair u v (gaps start fs) in
      record {
        gaps_add_up = omega (arith, ints, add, all_held, no_offers, kept.levels, kept.sums);
        whole = series_whole complete;
        figures = ap (λ (gs : List ℤ). Figures (settlement_of u v gs)) gaps_told;
        within_quote = fair.within_quote;
        covered = fair.covered;
        highest = fair.highest;
      }

  pub reported : (a : ℕ) (x : Account) → account_in (year fs) a ≡ Some x
      → Reported start fs a (Stated (statement_of (year fs).n (year fs).security (year fs).shortage (year fs).surplus (holds start fs) (year fs).accounts x))
  reported a x found =
      let has = lookup_has account_number a (year fs).accounts x found in
      let number = has.1 in
      let due = obligation_told fs x (kept.accounts.told x has.0) in
      let over = gap_told start fs x (kept.accounts.told x has.0) in
      let all_gaps = gaps_told in
      cc
