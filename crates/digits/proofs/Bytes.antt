-- Powers of 256, and bytes shifted into a number one after another.
use Rattle.std.proofs.Common.{◌≡◌, ℕ, suc, ◌+◌, ◌-◌, ◌*◌, ◌%◌, ◌^◌, ◌<◌, ◌≤◌, List, [], ◌∷◌, length, get_or, take, drop, min, bit_or, fold, Fits, w8, add-one, refl, ap, ◌∙◌, arith}
use native.Mathlib.Nat.{pow-succ', pow-le-pow_right}
use Rattle.std.proofs.lemmas.Nat.{or_shifted}
use Rattle.std.proofs.lemmas.List.{same_lists, places, length-take, length-drop}
use Rattle.std.proofs.lemmas.Int.Digits.{number_lt}
use Rattle.std.proofs.lemmas.Slice.{between_to_end}
use Rattle.std.specs.List.{between}
use Rattle.std.specs.Int.Digits.{number_from_digits_after, AllBelowBase}
use Rattle.digits.specs.Numbers.{field}

pub power_more : (i : ℕ) → 256 ^ (i + 1) ≡ 256 * 256 ^ i
power_more i = rw add-one (pow-succ' 256 i)

pub power_le : (i j : ℕ) → i ≤ j → 256 ^ i ≤ 256 ^ j
power_le i j h = pow-le-pow_right {n = 256} (omega arith) h

-- fewer than eight bytes and one more fit 64 bits
pub one_more_fits : (i n : ℕ) → n < 256 ^ i → i < 8 → 256 * n + 255 < 2 ^ 64
one_more_fits i n h lt = omega (arith, power_more i, power_le (i + 1) 8 (omega arith))

pub under_power : (n m width : ℕ) (xs : List ℕ) → n < 256 ^ length (take m xs) → m ≤ width → n < 256 ^ width
under_power n m width xs h le = omega (arith, power_le (length (take m xs)) width (simp length-take (omega arith)))

-- what a number of 64 bits is with one more byte shifted in
abbrev pub shifted_in : ℕ → ℕ → ℕ
shifted_in n byte = bit_or (n * 2 ^ 8 % 2 ^ 64) byte

one_more : (k n byte : ℕ) → byte < 256 → n < 256 ^ k → k < 8 → (shifted_in n byte ≡ n * 256 + byte) × (n * 256 + byte < 256 ^ (k + 1))
one_more k n byte small h lt =
    let m = power_more k in
    let p = power_le (k + 1) 8 (omega arith) in
    let e : n * 2 ^ 8 % 2 ^ 64 ≡ n * 2 ^ 8 = omega arith in
    (ap (λ (t : ℕ). bit_or t byte) e ∙ or_shifted n 8 byte small, omega arith)

shifted : (bytes : List ℕ) (k n : ℕ) → ((i : ℕ) → get_or bytes i 0 < 256) → n < 256 ^ k → k + length bytes ≤ 8 → fold shifted_in n bytes ≡ number_from_digits_after 256 n bytes
shifted [] k n small h le = refl
shifted (b ∷ bs) k n small h le =
    let o = one_more k n b (small 0) h (omega arith) in
    ap (λ (t : ℕ). fold shifted_in t bs) o.0 ∙ shifted bs (k + 1) (n * 256 + b) (λ i. small (suc i)) o.1 (omega arith)

below : (bytes : List ℕ) → ((i : ℕ) → get_or bytes i 0 < 256) → AllBelowBase 256 bytes
below [] small = tt
below (b ∷ bs) small = (small 0, below bs (λ i. small (suc i)))

-- what the bytes of a field are shifted into
pub field_shifted : (frame : List ℕ) (at width n : ℕ) → ((i : ℕ) → Fits w8 (get_or frame i 0)) → width ≤ 8 → n ≡ fold shifted_in 0 (take width (drop at frame)) → (n ≡ field width at frame) × (n < 256 ^ width)
field_shifted frame at width n fit le e =
    let bytes = take width (drop at frame) in
    let small : (i : ℕ) → get_or bytes i 0 < 256 = λ i. let f = (fit (at + i)).fits in grind (arith, places) in
    let l : length bytes ≤ width = simp length-take (omega arith) in
    let is = e ∙ shifted bytes 0 0 small (omega arith) (omega arith) in
    (is, omega (arith, is, number_lt 256 bytes (below bytes small), power_le (length bytes) width l))

-- what follows a place, where a place past the end is the end
pub from_place : (frame : List ℕ) (at place : ℕ) → place ≡ min at (length frame) → between place (length frame) frame ≡ drop at frame
from_place frame at place e =
    between_to_end frame place (length frame) (omega arith) ∙ same_lists _ _ (grind (arith, length-drop)) (λ k d h. grind (arith, places, length-drop))

-- a part cut at the list's end
pub part_is : (xs : List ℕ) (at width start count : ℕ) → start ≡ min at (length xs) → count ≡ min width (length xs - start) → take ((start + count) - start) (drop start xs) ≡ take width (drop at xs)
part_is xs at width start count e f =
    same_lists _ _ (simp (length-take, length-drop) (omega arith)) (λ k d h. grind (arith, places))
