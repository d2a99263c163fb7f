-- A frame whose bytes are written one part behind another: zeros follow them.
use Rattle.std.proofs.Common.{◌≡◌, ℕ, ◌+◌, ◌-◌, ◌≤◌, List, length, drop, take, replicate, ap, sym, ◌∙◌, arith, length-append, length-take}
use borrow.Rule.Slice.PartMut.{put_mid}
use lib.ListN.{length-drop}
use lib.Seq.{drop-drop}
use Rattle.std.proofs.lemmas.List.{drop-replicate}
use Rattle.std.proofs.lemmas.Slice.{drop-put_mid}

pub long_as_before : (xs ys : List ℕ) (a n : ℕ) → length xs ≡ 30 → length ys ≡ n → a + n ≤ 30 → length (put_mid a (a + n - a) xs ys) ≡ 30
long_as_before xs ys a n long part fits =
    let parts : length (put_mid a (a + n - a) xs ys) ≡ length (take a xs) + (length ys + length (drop (a + n - a) (drop a xs))) = length-append (take a xs) _ ∙ ap (λ t. length (take a xs) + t) (length-append ys _) in
    let front = length-take a xs in
    let back = length-drop (a + n - a) (drop a xs) in
    let rest = length-drop a xs in
    grind (arith)

pub zeros_follow : (xs ys : List ℕ) (a n : ℕ) → length xs ≡ 30 → length ys ≡ n → a + n ≤ 30 → drop a xs ≡ replicate (30 - a) 0 → drop (a + n) (put_mid a (a + n - a) xs ys) ≡ replicate (30 - (a + n)) 0
zeros_follow xs ys a n long part fits zeros =
    drop-put_mid a (a + n - a) xs ys (a + n) (omega arith) (omega arith) (part ∙ omega arith)
    ∙ sym (drop-drop n a xs) ∙ ap (drop n) zeros ∙ drop-replicate n (30 - a) 0 ∙ ap (λ k. replicate k 0) (omega arith)
