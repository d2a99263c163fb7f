-- What is written reads back.
use Rattle.std.proofs.Common.{◌≡◌, ℕ, zero, suc, ◌+◌, ◌*◌, ◌/◌, ◌%◌, ◌^◌, ◌<◌, ◌≤◌, true, List, [], ◌∷◌, ◌++◌, length, get_or, take, None, Ok, sym, refl, ap, ◌∙◌, mod-eq_of_lt, mul_assoc, add-mul, arith}
use Rattle.std.specs.Int.{w32, cast_signed, cast_unsigned}
use native.Mathlib.Nat.{pow-succ', div-eq_of_lt-le}
use lib.Arith.{mod-mul}
use mir.Facts.{Fits-of_z}
use Rattle.std.specs.Int.Digits.{number_from_digits, number_from_digits_after, AllBelowBase}
use Rattle.std.proofs.lemmas.Int.Digits.{number_after_lt}
use Rattle.std.proofs.lemmas.List.{take_at, drop_at}
use Rattle.std.proofs.lemmas.Int.{to_z-of_z}
use Rattle.std.proofs.lemmas.Bool.Decides.{nat_tests}
use Rattle.digits.specs.Hex.{digit, digits, is_digit, worth, first_wrong, bytes_of, reading}
use Rattle.digits.specs.Numbers.{bytes_be}
use Rattle.digits.specs.Laws.{ReadBack, WrittenBack, FieldBack, SignedBack, BytesBack}
use Rattle.digits.proofs.Pairs.{length_digits, all_digits, none_wrong, accepted}
use Rattle.digits.proofs.Bytes.{power_le}

digit_is_digit : (n : ℕ) → n < 16 → is_digit (digit n) ≡ true
digit_is_digit n h = grind (arith, nat_tests)

worth_digit : (n : ℕ) → n < 16 → worth (digit n) ≡ n
worth_digit n h = grind (arith, nat_tests)

digit_worth : (c : ℕ) → is_digit c ≡ true → (worth c < 16) × (digit (worth c) ≡ c)
digit_worth c e = (grind (arith, nat_tests), grind (arith, nat_tests))

each_digit : (bytes : List ℕ) (k : ℕ) → AllBelowBase 256 bytes → k < length (digits bytes) → is_digit (get_or (digits bytes) k 0) ≡ true
each_digit [] k u h = absurd (omega arith)
each_digit (b ∷ bs) zero u h = digit_is_digit (b / 16) (omega (arith, u.0))
each_digit (b ∷ bs) (suc zero) u h = digit_is_digit (b % 16) (omega arith)
each_digit (b ∷ bs) (suc (suc k)) u h = each_digit bs k u.1 (omega arith)

bytes_of_digits : (bytes : List ℕ) → AllBelowBase 256 bytes → bytes_of (digits bytes) ≡ bytes
bytes_of_digits [] u = refl
bytes_of_digits (b ∷ bs) u =
    let h = worth_digit (b / 16) (omega (arith, u.0)) in
    let l = worth_digit (b % 16) (omega arith) in
    let w : 16 * worth (digit (b / 16)) + worth (digit (b % 16)) ≡ b = omega arith in
    let rest = bytes_of_digits bs u.1 in
    cc

accepting : (line : List ℕ) (room : ℕ) → first_wrong line ≡ None → length line % 2 ≡ 0 → length line / 2 ≤ room → reading line room ≡ Ok (length line / 2)
accepting line room c even fits = grind (arith, nat_tests)

digits_bytes_of : (line : List ℕ) → ((k : ℕ) → k < length line → is_digit (get_or line k 0) ≡ true) → length line % 2 ≡ 0 → digits (bytes_of line) ≡ line
digits_bytes_of [] each even = refl
digits_bytes_of (h ∷ []) each even = absurd (omega arith)
digits_bytes_of (h ∷ l ∷ cs) each even =
    let high = digit_worth h (each 0 (omega arith)) in
    let low = digit_worth l (each 1 (omega arith)) in
    let a : (16 * worth h + worth l) / 16 ≡ worth h = omega arith in
    let b : (16 * worth h + worth l) % 16 ≡ worth l = omega arith in
    let rest = digits_bytes_of cs (λ k lt. each (suc (suc k)) (omega arith)) (omega arith) in
    cc

pub read_back : ReadBack
read_back bytes room u fits =
    let n = length_digits bytes in
    let h : length (digits bytes) / 2 ≡ length bytes = omega arith in
    (accepting (digits bytes) room (none_wrong (digits bytes) (λ k. each_digit bytes k u)) (omega arith) (omega arith) ∙ ap (λ (t : ℕ). Ok t) h, bytes_of_digits bytes u)

pub written_back : WrittenBack
written_back line room n e = let a = accepted line room n (sym e) in digits_bytes_of line (λ k. all_digits line k a.0) (omega arith)

length_bytes_be : (width n : ℕ) → length (bytes_be width n) ≡ width
length_bytes_be zero n = refl
length_bytes_be (suc width) n = ap suc (length_bytes_be width n)

power_some : (width : ℕ) → 0 < 256 ^ width
power_some width = omega (arith, power_le 0 width (omega arith))

-- what bytes written after a number make of it
number_bytes_be : (width m n : ℕ) → number_from_digits_after 256 m (bytes_be width n) ≡ m * 256 ^ width + n % 256 ^ width
number_bytes_be zero m n = omega arith
number_bytes_be (suc width) m n =
    let parts = mod-mul n {m = 256} {c = 256 ^ width} (omega arith) (power_some width) in
    let later = number_bytes_be width (m * 256 + n / 256 ^ width % 256) n in
    let power = ap (λ (t : ℕ). m * t + n % t) (pow-succ' 256 width) in
    omega (arith, add-mul (m * 256) (n / 256 ^ width % 256) (256 ^ width), mul_assoc m 256 (256 ^ width))

pub field_back : FieldBack
field_back before after width n h =
    ap (λ (t : List ℕ). number_from_digits 256 (take width t)) (drop_at before (bytes_be width n ++ after) (length before) refl)
    ∙ ap (number_from_digits 256) (take_at (bytes_be width n) after width (length_bytes_be width n))
    ∙ number_bytes_be width 0 n
    ∙ omega (arith, mod-eq_of_lt h)

pub signed_back : SignedBack
signed_back before after z f = ap (cast_signed w32) (field_back before after 4 (cast_unsigned w32 z) (Fits-of_z f).fits) ∙ to_z-of_z w32 z f

number_ge : (m : ℕ) (bytes : List ℕ) → m * 256 ^ length bytes ≤ number_from_digits_after 256 m bytes
number_ge m [] = omega arith
number_ge m (b ∷ bs) =
    let r = number_ge (m * 256 + b) bs in
    omega (arith, add-mul (m * 256) b (256 ^ length bs), mul_assoc m 256 (256 ^ length bs), ap (λ (t : ℕ). m * t) (pow-succ' 256 (length bs)))

bytes_be_number : (m : ℕ) (bytes : List ℕ) → AllBelowBase 256 bytes → bytes_be (length bytes) (number_from_digits_after 256 m bytes) ≡ bytes
bytes_be_number m [] u = refl
bytes_be_number m (b ∷ bs) u =
    let q = div-eq_of_lt-le (256 ^ length bs) (number_ge (m * 256 + b) bs) (number_after_lt 256 (m * 256 + b) bs u.1) in
    let d : number_from_digits_after 256 (m * 256 + b) bs / 256 ^ length bs % 256 ≡ b = omega (arith, u.0) in
    let rest = bytes_be_number (m * 256 + b) bs u.1 in
    cc

pub bytes_back : BytesBack
bytes_back bytes u = bytes_be_number 0 bytes u
