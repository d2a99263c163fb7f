-- The first account with a series begun and not complete, account by account.
use Rattle.std.proofs.Common.{◌≡◌, ℕ, ◌+◌, ◌<◌, ◌≤◌, true, false, cond, List, length, get_or, drop, Some, None, sym, ◌∙◌}
use Rattle.std.proofs.lemmas.List.{at_drop_more, at_drop_all}
use Rattle.std.proofs.lemmas.Bool.{cond-true, cond-false}
use Rattle.rules.specs.declared.records.Account.{Account}
use Rattle.rules.specs.Settling.{is_incomplete, first_incomplete}

-- The accounts before the place i are complete or not begun.
abbrev pub NoneBefore : ℕ → List Account → ℕ → Type 0
NoneBefore n accounts i = first_incomplete n (drop i accounts) ≡ first_incomplete n accounts

from_here : (n : ℕ) (accounts : List Account) (i : ℕ) (d : Account) → i < length accounts → NoneBefore n accounts i → first_incomplete n accounts ≡ cond (is_incomplete n (get_or accounts i d)) (Some (get_or accounts i d).number) (first_incomplete n (drop (i + 1) accounts))
from_here n accounts i d within before = sym before ∙ at_drop_more (first_incomplete n) accounts i d within

pub first_here : (n : ℕ) (accounts : List Account) (i : ℕ) (d : Account) → i < length accounts → NoneBefore n accounts i → is_incomplete n (get_or accounts i d) ≡ true → Some (get_or accounts i d).number ≡ first_incomplete n accounts
first_here n accounts i d within before here = sym (from_here n accounts i d within before ∙ cond-true _ _ _ here)

pub none_before_next : (n : ℕ) (accounts : List Account) (i : ℕ) (d : Account) → i < length accounts → NoneBefore n accounts i → is_incomplete n (get_or accounts i d) ≡ false → NoneBefore n accounts (i + 1)
none_before_next n accounts i d within before here = sym (from_here n accounts i d within before ∙ cond-false _ _ _ here)

pub none_at_all : (n : ℕ) (accounts : List Account) (i : ℕ) → length accounts ≤ i → NoneBefore n accounts i → None ≡ first_incomplete n accounts
none_at_all n accounts i past before = sym (at_drop_all (first_incomplete n) accounts i past) ∙ before
