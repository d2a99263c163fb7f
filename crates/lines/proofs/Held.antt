-- A line held by its first 65 bytes.
use Rattle.std.proofs.Common.{◌≡◌, ℕ, ◌+◌, ◌<◌, ◌≤◌, List, [], ◌∷◌, ◌++◌, length, take, set, Ok, Err, Result, sym, refl, ap, ◌∙◌, arith, ◌↔◌}
use Rattle.std.specs.Result.{IsOk, OnOk, OnErr}
use Rattle.std.proofs.lemmas.List.{take_more_set, take_all, take_at, take-append-le, length-append, length-take-le}

-- one byte more, written behind the first `count` of 65 places
pub held_longer : (held : List ℕ) (count byte : ℕ) → length held ≡ 65 → count < 65 → take (count + 1) (set held count byte) ≡ take 65 (take count held ++ (byte ∷ []))
held_longer held count byte whole lt =
    let n : length (take count held ++ (byte ∷ [])) ≤ 65 = omega (arith, length-append (take count held) (byte ∷ []), length-take-le count held (omega (arith, whole))) in
    take_more_set held count byte (omega (arith, whole)) ∙ sym (take_all 65 (take count held ++ (byte ∷ [])) n)

-- where all 65 are taken, it is let go
pub held_full : (held : List ℕ) (count byte : ℕ) → length held ≡ 65 → count ≤ 65 → 65 ≤ count → take count held ≡ take 65 (take count held ++ (byte ∷ []))
held_full held count byte whole le full =
    let n : length (take count held) ≡ count = length-take-le count held (omega (arith, whole)) in
    sym (take-append-le 65 (take count held) (byte ∷ []) (omega (arith, n)) ∙ take_all 65 (take count held) (omega (arith, n)))

-- one byte more where there is room, else the same
pub held_more : {V E : Type 0} (items : V → List ℕ) (before after : V) (b : ℕ) (r : Result (Unit {0}) E) → (IsOk r ↔ (length (items before) < 65)) → OnOk r (items after ≡ items before ++ b ∷ []) → OnErr r (after ≡ before) → OnErr r (length (items before) ≡ 65)
    → items after ≡ take 65 (items before ++ b ∷ [])
held_more items before after b (Ok done) room longer same full =
    let short = room.0 refl in
    longer ∙ sym (take_all 65 (items before ++ b ∷ []) (omega (arith, short, length-append (items before) (b ∷ []))))
held_more items before after b (Err fault) room longer same full = ap items same ∙ sym (take_at (items before) (b ∷ []) 65 full)
