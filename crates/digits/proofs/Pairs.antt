-- Digits in pairs: lengths, places, and one more pair.
use Rattle.std.proofs.Common.{◌≡◌, ℕ, zero, suc, ◌+◌, ◌*◌, ◌/◌, ◌%◌, ◌<◌, ◌≤◌, Bool, true, not, map, List, [], ◌∷◌, ◌++◌, length, get_or, take, drop, set, None, Ok, sym, refl, ap, ◌∙◌, arith}
use Rattle.std.specs.List.{position_or_len}
use Rattle.std.specs.Simd.{first_chunks}
use Rattle.std.proofs.lemmas.List.{length-map, map_more, drop-drop, get_or-drop, get_or-take, append_assoc, take_more, drop_more, set_at, length-append, length-take-le, take_at}
use Rattle.std.proofs.lemmas.List.Sums.{fails_before_first, position_or_len_is}
use Rattle.std.proofs.lemmas.Bool.{not-false}
use Rattle.std.proofs.lemmas.Bool.Decides.{nat_tests}
use Rattle.digits.specs.Hex.{digit, digits, is_digit, worth, first_wrong, bytes_of, reading}

digits_append : (xs ys : List ℕ) → digits (xs ++ ys) ≡ digits xs ++ digits ys
digits_append [] ys = refl
digits_append (x ∷ xs) ys = ap (λ (t : List ℕ). digit (x / 16) ∷ digit (x % 16) ∷ t) (digits_append xs ys)

pub length_digits : (xs : List ℕ) → length (digits xs) ≡ 2 * length xs
length_digits [] = refl
length_digits (x ∷ xs) = let h = length_digits xs in omega arith

digits_more : (bs : List ℕ) (i : ℕ) → i < length bs → digits (take (i + 1) bs) ≡ digits (take i bs) ++ (digit (get_or bs i 0 / 16) ∷ digit (get_or bs i 0 % 16) ∷ [])
digits_more bs i h = ap digits (take_more bs i 0 h) ∙ digits_append (take i bs) (get_or bs i 0 ∷ [])

-- one write past what is written
one_more : (xs ys : List ℕ) (k a : ℕ) → length xs ≡ k → k < length ys → set (xs ++ drop k ys) k a ≡ (xs ++ a ∷ []) ++ drop (k + 1) ys
one_more xs ys k a e h =
    ap (λ (t : List ℕ). set (xs ++ t) k a) (drop_more ys k 0 h) ∙ set_at xs (get_or ys k 0) (drop (k + 1) ys) a k e ∙ sym (append_assoc xs (a ∷ []) (drop (k + 1) ys))

two_more : (xs ys : List ℕ) (k a b : ℕ) → length xs ≡ k → k + 1 < length ys → set (set (xs ++ drop k ys) k a) (k + 1) b ≡ (xs ++ a ∷ b ∷ []) ++ drop (k + 2) ys
two_more xs ys k a b e h =
    let first = one_more xs ys k a e (omega arith) in
    let second = one_more (xs ++ a ∷ []) ys (k + 1) b (omega (arith, length-append xs (a ∷ []))) h in
    let joined = append_assoc xs (a ∷ []) (b ∷ []) in
    let n : (k + 1) + 1 ≡ k + 2 = omega arith in
    cc

pub write_more : (bs out xs : List ℕ) (i : ℕ) (pair : ℕ × ℕ) → 2 * length bs ≤ length out → i < length bs → xs ≡ digits (take i bs) ++ drop (2 * i) out → pair ≡ (digit (get_or bs i 0 / 16), digit (get_or bs i 0 % 16)) → set (set xs (2 * i) pair.0) (2 * i + 1) pair.1 ≡ digits (take (i + 1) bs) ++ drop (2 * (i + 1)) out
write_more bs out xs i pair room lt e p =
    let n : length (digits (take i bs)) ≡ 2 * i = omega (arith, length_digits (take i bs), length-take-le i bs (omega arith)) in
    let two = two_more (digits (take i bs)) out (2 * i) pair.0 pair.1 n (omega arith) in
    let more = digits_more bs i lt in
    let k : 2 * i + 2 ≡ 2 * (i + 1) = omega arith in
    cc

-- whether a character is wrong
abbrev wrong : ℕ → Bool
wrong c = not (is_digit c)

-- a line has no wrong character where each is a digit, and only there
pub all_digits : (line : List ℕ) (k : ℕ) → first_wrong line ≡ None → k < length line → is_digit (get_or line k 0) ≡ true
all_digits line k none h =
    let l : length line ≤ position_or_len wrong line = grind (arith, nat_tests) in
    not-false (is_digit (get_or line k 0)) (fails_before_first wrong line k 0 (omega arith))

pub none_wrong : (line : List ℕ) → ((k : ℕ) → k < length line → is_digit (get_or line k 0) ≡ true) → first_wrong line ≡ None
none_wrong line each =
    let l : position_or_len wrong line ≡ length line = position_or_len_is wrong line (length line) 0 (omega arith) (λ k h. ap not (each k h)) (λ h. absurd (omega arith)) in
    grind (arith, nat_tests)

-- an accepted line has no wrong character, and two for each byte
pub accepted : (line : List ℕ) (room n : ℕ) → Ok n ≡ reading line room → (first_wrong line ≡ None) × (length line ≡ 2 * n) × (n ≤ room)
accepted line room n e = (grind (arith, nat_tests), grind (arith, nat_tests), grind (arith, nat_tests))

pub length_bytes_of : (line : List ℕ) → length (bytes_of line) ≡ length line / 2
length_bytes_of [] = refl
length_bytes_of (h ∷ []) = refl
length_bytes_of (h ∷ l ∷ cs) = let r = length_bytes_of cs in omega arith

-- the byte of a pair of digits
abbrev pub byte : List ℕ → ℕ
byte pair = 16 * worth (get_or pair 0 0) + worth (get_or pair 1 0)

pub read_more : (pairs : List (List ℕ)) (out xs : List ℕ) (i b : ℕ) → i < length pairs → length pairs ≤ length out → xs ≡ map byte (take i pairs) ++ drop i out → b ≡ byte (get_or pairs i []) → set xs i b ≡ map byte (take (i + 1) pairs) ++ drop (i + 1) out
read_more pairs out xs i b lt room e is =
    let n : length (map byte (take i pairs)) ≡ i = omega (arith, length-map (take i pairs) byte, length-take-le i pairs (omega arith)) in
    let more = one_more (map byte (take i pairs)) out i b n (omega arith) in
    let pair = map_more byte pairs i [] lt in
    cc

pub bytes_of_pairs : (line : List ℕ) (k : ℕ) → k ≡ length line / 2 → map byte (first_chunks 2 k line) ≡ bytes_of line
bytes_of_pairs [] zero e = refl
bytes_of_pairs [] (suc k) e = absurd (omega arith)
bytes_of_pairs (h ∷ []) zero e = refl
bytes_of_pairs (h ∷ []) (suc k) e = absurd (omega arith)
bytes_of_pairs (h ∷ l ∷ cs) zero e = absurd (omega arith)
bytes_of_pairs (h ∷ l ∷ cs) (suc k) e = ap (λ (t : List ℕ). (16 * worth h + worth l) ∷ t) (bytes_of_pairs cs k (omega arith))

-- a pair of digits by its place
pair_at : (line : List ℕ) (k i : ℕ) → i < k → get_or (first_chunks 2 k line) i [] ≡ take 2 (drop (2 * i) line)
pair_at line zero i h = absurd (omega arith)
pair_at line (suc k) zero h = refl
pair_at line (suc k) (suc i) h =
    let two : 2 + 2 * i ≡ 2 * suc i = omega arith in
    pair_at (drop 2 line) k i (omega arith) ∙ ap (take 2) (drop-drop (2 * i) 2 line ∙ ap (λ (n : ℕ). drop n line) two)

-- each digit of a pair
pub digit_at : (line : List ℕ) (pairs : List (List ℕ)) (i j : ℕ) → first_wrong line ≡ None → pairs ≡ first_chunks 2 (length line / 2) line → i < length line / 2 → j < 2 → is_digit (get_or (get_or pairs i []) j 0) ≡ true
digit_at line pairs i j none e h lt =
    let at : get_or (get_or pairs i []) j 0 ≡ get_or line (2 * i + j) 0
    = ap (λ (ps : List (List ℕ)). get_or (get_or ps i []) j 0) e ∙ ap (λ (p : List ℕ). get_or p j 0) (pair_at line (length line / 2) i h) ∙ get_or-take 2 (drop (2 * i) line) j 0 lt ∙ get_or-drop (2 * i) line j 0 in
    rw at (all_digits line (2 * i + j) none (omega arith))

-- what was read stands in front
pub read_front : (line out xs : List ℕ) (n : ℕ) → length line ≡ 2 * n → xs ≡ bytes_of line ++ drop (length line / 2) out → take n xs ≡ bytes_of line
read_front line out xs n l e = ap (take n) e ∙ take_at (bytes_of line) (drop (length line / 2) out) n (omega (arith, length_bytes_of line))
