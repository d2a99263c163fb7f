-- One movement more, at the end of a list.
use Rattle.std.proofs.Common.{◌≡◌, ℕ, ◌+◌, ◌<◌, ◌≤◌, true, eqb, List, [], ◌∷◌, ◌++◌, length, ⊎_elim, arith, length-append}
use Rattle.std.proofs.lemmas.List.{take-append-le, take_at, get_or_at, get_or_append_left}
use Rattle.std.proofs.lemmas.List.Sums.{fold_push}
use Rattle.std.proofs.lemmas.Bool.{eqb-true, leb-true, cond_both, cases_lt}
use Rattle.ledger.specs.declared.movement.Movement.{Movement}
use Rattle.ledger.specs.declared.movement.Side.{Side}
use Rattle.ledger.specs.declared.movement.Side.TheVariants.{Credit, Debit}
use Rattle.ledger.specs.Rules.{limit}
use Rattle.ledger.specs.Holdings.{changed, moving, moved, covers, Sound}

-- a change that finds room stays within the limit
covered_capped : (s : Side) (h m : ℕ) → h ≤ limit → covers s h m ≡ true → changed s h m ≤ limit
covered_capped Credit h m l c = leb-true (h + m) limit c
covered_capped Debit h m l c = omega arith

-- a movement that finds room leaves every holding within the limit
pub capped_push : (ms : List Movement) (m : Movement) → ((k : ℕ) → moved ms k ≤ limit) → covers m.side (moved ms m.account) m.amount ≡ true → (k : ℕ) → moved (ms ++ (m ∷ [])) k ≤ limit
capped_push ms m l c k =
    rw (fold_push (moving k) 0 ms m)
    (cond_both (eqb k m.account) (changed m.side (moved ms k) m.amount) (moved ms k) (λ x. x ≤ limit)
    (λ e. let c' : covers m.side (moved ms k) m.amount ≡ true = rw (eqb-true k m.account e) c in
    covered_capped m.side (moved ms k) m.amount (l k) c')
    (λ _. l k))

-- a movement that finds room at the end keeps the list sound
pub sound_push : (ms : List Movement) (m : Movement) → Sound ms → covers m.side (moved ms m.account) m.amount ≡ true → Sound (ms ++ (m ∷ []))
sound_push ms m s c n d lt =
    let more : length (ms ++ (m ∷ [])) ≡ length ms + 1 = length-append ms (m ∷ []) in
    ⊎_elim
    (λ (h : n < length ms). rw (get_or_append_left ms (m ∷ []) d n h, take-append-le n ms (m ∷ []) (omega arith)) (s n d h))
    (λ (h : length ms ≤ n). let e : length ms ≡ n = omega arith in rw (get_or_at ms m [] d n e, take_at ms (m ∷ []) n e) c)
    (cases_lt n (length ms))
