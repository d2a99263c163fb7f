-- A line written over a part of the answer space.
use Rattle.std.proofs.Common.{◌≡◌, ℕ, ◌+◌, ◌-◌, ◌*◌, ◌<◌, cond, List, [], ◌∷◌, ◌++◌, length, get_or, take, drop, set, is_some, Some, None, Option, sym, ap, ◌∙◌, arith}
use borrow.Rule.Slice.PartMut.{put_mid}
use Rattle.std.proofs.lemmas.List.{append_assoc, append-nil, length-append, length-take-le, set_at, drop_more, drop_all, drop-drop}
use Rattle.std.proofs.lemmas.Bool.{le-leb}
use Rattle.digits.specs.Hex.{digits, writing}
use Rattle.digits.proofs.Pairs.{length_digits}
use Rattle.frames.specs.Answers.{line_of, over}

pub line_length : (bytes : List ℕ) → 2 * length bytes + 1 ≡ length (line_of bytes)
line_length bytes = omega (arith, length_digits bytes, length-append (digits bytes) (10 ∷ []))

-- the part that was lent to the writer of digits holds just them
digits_put : (bytes part lent : List ℕ) (r : Option ℕ) → length part ≡ 2 * length bytes → r ≡ writing bytes (length part) → lent ≡ cond (is_some r) (digits bytes ++ drop (2 * length bytes) part) part → lent ≡ digits bytes
digits_put bytes part lent r long answer is =
    let fits : r ≡ Some (2 * length bytes) = answer ∙ ap (λ b. cond b (Some (2 * length bytes)) None) (le-leb (2 * length bytes) (length part) (omega (arith, long))) in
    is ∙ ap (λ (o : Option ℕ). cond (is_some o) (digits bytes ++ drop (2 * length bytes) part) part) fits ∙ ap (λ (t : List ℕ). digits bytes ++ t) (drop_all (2 * length bytes) part (omega (arith, long))) ∙ append-nil (digits bytes)

-- the digits and the line's end after them
pub line_put : (space bytes part lent : List ℕ) (at : ℕ) (r : Option ℕ) → at + 2 * length bytes < length space → length part ≡ 2 * length bytes → r ≡ writing bytes (length part) → lent ≡ cond (is_some r) (digits bytes ++ drop (2 * length bytes) part) part
    → set (put_mid at ((at + 2 * length bytes) - at) space lent) (at + 2 * length bytes) 10 ≡ over space at (line_of bytes)
line_put space bytes part lent at r within long answer is =
    let size : (at + 2 * length bytes) - at ≡ 2 * length bytes = omega arith in
    let n = length_digits bytes in
    let l = digits_put bytes part lent r long answer is in
    let d = drop-drop (2 * length bytes) at space in
    let m = drop_more space (at + 2 * length bytes) 0 within in
    let p : length (take at space ++ digits bytes) ≡ at + 2 * length bytes = omega (arith, length-append (take at space) (digits bytes), length-take-le at space (omega arith)) in
    let w = set_at (take at space ++ digits bytes) (get_or space (at + 2 * length bytes) 0) (drop (at + 2 * length bytes + 1) space) 10 (at + 2 * length bytes) p in
    let a1 = append_assoc (take at space) (digits bytes) (get_or space (at + 2 * length bytes) 0 ∷ drop (at + 2 * length bytes + 1) space) in
    let a2 = append_assoc (take at space) (digits bytes) (10 ∷ drop (at + 2 * length bytes + 1) space) in
    let a3 = append_assoc (digits bytes) (10 ∷ []) (drop (at + 2 * length bytes + 1) space) in
    let q : at + length (line_of bytes) ≡ at + 2 * length bytes + 1 = omega (arith, length-append (digits bytes) (10 ∷ [])) in
    let from : put_mid at ((at + 2 * length bytes) - at) space lent ≡ (take at space ++ digits bytes) ++ (get_or space (at + 2 * length bytes) 0 ∷ drop (at + 2 * length bytes + 1) space)
    = ap (λ (t : ℕ). take at space ++ (lent ++ drop t (drop at space))) size ∙ ap (λ (t : List ℕ). take at space ++ (t ++ drop (2 * length bytes) (drop at space))) l ∙ ap (λ (t : List ℕ). take at space ++ (digits bytes ++ t)) (d ∙ m) ∙ sym a1 in
    let to : over space at (line_of bytes) ≡ take at space ++ (digits bytes ++ (10 ∷ drop (at + 2 * length bytes + 1) space))
    = ap (λ (t : ℕ). take at space ++ (line_of bytes ++ drop t space)) q ∙ ap (λ (t : List ℕ). take at space ++ t) a3 in
    ap (λ (t : List ℕ). set t (at + 2 * length bytes) 10) from ∙ w ∙ a2 ∙ sym to
