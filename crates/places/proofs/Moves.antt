-- What a rotation of a part of the places leaves of their front.
use Rattle.std.proofs.Common.{◌≡◌, ℕ, ◌+◌, ◌-◌, ◌<◌, ◌≤◌, List, [], ◌∷◌, ◌++◌, length, get_or, take, drop, refl, ap, sym, ◌∙◌, arith, length-take, length-append, rules}
use borrow.Rule.Slice.PartMut.{put_mid}
use lib.Seq.{drop-append_seam, take-append_seam}
use Rattle.std.specs.List.{insert as opened, remove as closed}
use Rattle.std.proofs.lemmas.List.{same_lists, places, drop-take, drop-append-le, take-take, take-append-le}
use Rattle.std.proofs.lemmas.Slice.{take-put_mid}

pub closes : {X : Type 0} (xs ys : List X) (len at : ℕ) → at < length (take len xs) → len ≤ length xs → length ys ≡ len - at → ((k : ℕ) (d : X) → k + 1 < len - at → get_or ys k d ≡ get_or (take (len - at) (drop at xs)) (k + 1) d) → take (len - 1) (put_mid at (len - at) xs ys) ≡ closed (take len xs) at
closes xs ys len at lt le long is = let used = length-take len xs in same_lists _ _ (search (rules, places)) (λ k d h. grind (arith, places))

-- A list turned so that its last item is its first.
turned : {X : Type 0} (ms ws : List X) (x : X) → ms ≡ ws ++ x ∷ [] → drop (length ms - 1) ms ++ take (length ms - 1) ms ≡ x ∷ ws
turned ms ws x e = let long : length (ws ++ x ∷ []) - 1 ≡ length ws = omega (arith, length-append ws (x ∷ [])) in rw (e, long, drop-append_seam ws (x ∷ []), take-append_seam ws (x ∷ [])) refl

pub opens : {X : Type 0} (xs ys zs : List X) (x : X) (len at : ℕ) → at ≤ length zs → take len xs ≡ zs ++ x ∷ [] → length ys ≡ len - at → ys ≡ drop (length (take (len - at) (drop at xs)) - 1) (take (len - at) (drop at xs)) ++ take (length (take (len - at) (drop at xs)) - 1) (take (len - at) (drop at xs)) → take len (put_mid at (len - at) xs ys) ≡ opened zs at x
opens xs ys zs x len at le front long is =
    let counted = ap length front in
    let within : (at + 1 ≤ len) × (at ≤ length xs) = (grind (arith, length-append, length-take), grind (arith, length-append, length-take)) in
    let part : take (len - at) (drop at xs) ≡ drop at zs ++ x ∷ [] = sym (drop-take at (len - at) xs) ∙ ap (λ n. drop at (take n xs)) (omega (arith, within.0)) ∙ ap (drop at) front ∙ drop-append-le at zs (x ∷ []) le in
    let ahead : take at xs ≡ take at zs = sym (take-take at len xs (omega (arith, within.0))) ∙ ap (take at) front ∙ take-append-le at zs (x ∷ []) le in
    take-put_mid at (len - at) xs ys len (omega (arith, within.0)) within.1 ∙ ap (λ ws. ws ++ ys) ahead ∙ ap (λ ws. take at zs ++ ws) (is ∙ turned _ (drop at zs) x part)
