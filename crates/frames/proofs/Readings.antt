-- What the reading of digits says of a line's frame.
use Rattle.std.proofs.Common.{◌≡◌, ℕ, ◌/◌, ◌%◌, ◌<◌, ◌≤◌, Bool, true, false, cond, not, eqb, ltb, List, length, Some, None, Ok, Err, Option, Result, sym, refl, ap, ◌∙◌, arith}
use Rattle.std.specs.List.{position_or_len}
use Rattle.std.specs.Option.{option_map_or}
use Rattle.std.proofs.lemmas.Bool.{cond-true, cond-false, le-ltb, lt-ltb, ltb-true}
use Rattle.digits.specs.declared.hex.HexFault.{HexFault}
use Rattle.digits.specs.declared.hex.HexFault.TheVariants.{WrongCharacter, OddCount, NoRoom}
use Rattle.digits.specs.Hex.{is_digit, first_wrong, bytes_of, reading}
use Rattle.rules.specs.declared.calls.Call.{Call}
use Rattle.frames.specs.declared.fault.LineFault.{LineFault}
use Rattle.frames.specs.declared.fault.LineFault.TheVariants.{TooLong, WrongCharacter as WrongLine, OddCount as OddLine}
use Rattle.frames.specs.Frames.{frame_of, call_of, heard, and_then, Small, line_fault}

pub too_long : (line : List ℕ) → 64 < length line → frame_of line ≡ Err TooLong
too_long line long = cond-true (ltb 64 (length line)) _ _ (lt-ltb 64 (length line) long)

short : (line : List ℕ) (a b : Result (List ℕ) LineFault) → length line ≤ 64 → cond (ltb 64 (length line)) a b ≡ b
short line a b le = cond-false (ltb 64 (length line)) a b (le-ltb 64 (length line) le)

-- the place of the first character that is no digit; the length where there is none
abbrev place : List ℕ → ℕ
place line = position_or_len (λ c. not (is_digit c)) line

-- a line with a character that is no digit, and a line of digits alone
wrong_at : (line : List ℕ) (a : Result (List ℕ) LineFault) → ltb (place line) (length line) ≡ true → option_map_or (λ i. Err (WrongLine i)) (first_wrong line) a ≡ Err (WrongLine (place line))
wrong_at line a is = ap (λ (o : Option ℕ). option_map_or (λ i. Err (WrongLine i)) o a) (cond-true (ltb (place line) (length line)) (Some (place line)) None is)

all_digits : (line : List ℕ) (a : Result (List ℕ) LineFault) → ltb (place line) (length line) ≡ false → option_map_or (λ i. Err (WrongLine i)) (first_wrong line) a ≡ a
all_digits line a is = ap (λ (o : Option ℕ). option_map_or (λ i. Err (WrongLine i)) o a) (cond-false (ltb (place line) (length line)) (Some (place line)) None is)

-- the reading by its three tests: a character that is no digit, an odd count, no room
abbrev read : (wrong odd full : Bool) (w n k : ℕ) → Result ℕ HexFault
read wrong odd full w n k = option_map_or (λ i. Err (WrongCharacter i)) (cond wrong (Some w) None) (cond odd (Err (OddCount n)) (cond full (Err NoRoom) (Ok k)))

wrong_character : (line : List ℕ) (room i : ℕ) → length line ≤ 64 → Err (WrongCharacter i) ≡ reading line room → (i ≤ 64) × (frame_of line ≡ Err (WrongLine i))
wrong_character line room i le e = (omega (arith, le, ltb-true (place line) (length line) found.0, found.1), short line _ _ le ∙ wrong_at line _ found.0 ∙ ap (λ (k : ℕ). Err (WrongLine k)) (sym found.1))
  where
    go : (a b d : Bool) (w n k : ℕ) → Err (WrongCharacter i) ≡ read a b d w n k → (a ≡ true) × (i ≡ w)
    go true b d w n k e = (refl, cc)
    go false true d w n k e = absurd (let z : ◌≡◌ {A = ℕ} 0 1 = cc in omega arith)
    go false false true w n k e = absurd (let z : ◌≡◌ {A = ℕ} 0 1 = cc in omega arith)
    go false false false w n k e = absurd (let z : ◌≡◌ {A = ℕ} 0 1 = cc in omega arith)

    found : (ltb (place line) (length line) ≡ true) × (i ≡ place line)
    found = go (ltb (place line) (length line)) (eqb (length line % 2) 1) (ltb room (length line / 2)) (place line) (length line) (length line / 2) e

odd_count : (line : List ℕ) (room n : ℕ) → length line ≤ 64 → Err (OddCount n) ≡ reading line room → (n ≤ 64) × (frame_of line ≡ Err (OddLine n))
odd_count line room n le e = (omega (arith, le, found.2), short line _ _ le ∙ all_digits line _ found.0 ∙ cond-true (eqb (length line % 2) 1) _ _ found.1 ∙ ap (λ (k : ℕ). Err (OddLine k)) (sym found.2))
  where
    go : (a b d : Bool) (w m k : ℕ) → Err (OddCount n) ≡ read a b d w m k → (a ≡ false) × (b ≡ true) × (n ≡ m)
    go true b d w m k e = absurd (let z : ◌≡◌ {A = ℕ} 0 1 = cc in omega arith)
    go false true d w m k e = (refl, refl, cc)
    go false false true w m k e = absurd (let z : ◌≡◌ {A = ℕ} 0 1 = cc in omega arith)
    go false false false w m k e = absurd (let z : ◌≡◌ {A = ℕ} 0 1 = cc in omega arith)

    found : (ltb (place line) (length line) ≡ false) × (eqb (length line % 2) 1 ≡ true) × (n ≡ length line)
    found = go (ltb (place line) (length line)) (eqb (length line % 2) 1) (ltb room (length line / 2)) (place line) (length line) (length line / 2) e

-- 32 bytes are room enough
never_without_room : (line : List ℕ) (room : ℕ) → length line ≤ 64 → 32 ≤ room → Err NoRoom ≡ reading line room → ⊥
never_without_room line room le enough e =
    let few : ltb room (length line / 2) ≡ false = le-ltb room (length line / 2) (omega arith) in
    go (ltb (place line) (length line)) (eqb (length line % 2) 1) (place line) (length line) (length line / 2) (e ∙ ap (λ (d : Bool). read (ltb (place line) (length line)) (eqb (length line % 2) 1) d (place line) (length line) (length line / 2)) few)
  where
    go : (a b : Bool) (w m k : ℕ) → Err NoRoom ≡ read a b false w m k → ⊥
    go true b w m k e = let z : ◌≡◌ {A = ℕ} 0 1 = cc in omega arith
    go false true w m k e = let z : ◌≡◌ {A = ℕ} 0 1 = cc in omega arith
    go false false w m k e = let z : ◌≡◌ {A = ℕ} 0 1 = cc in omega arith

pub whole_frame : (line front : List ℕ) (room n : ℕ) → length line ≤ 64 → Ok n ≡ reading line room → front ≡ bytes_of line → (n ≤ 32) × (frame_of line ≡ Ok front)
whole_frame line front room n le e is = (omega (arith, le, found.2), short line _ _ le ∙ all_digits line _ found.0 ∙ cond-false (eqb (length line % 2) 1) _ _ found.1 ∙ ap Ok (sym is))
  where
    go : (a b d : Bool) (w m k : ℕ) → Ok n ≡ read a b d w m k → (a ≡ false) × (b ≡ false) × (n ≡ k)
    go true b d w m k e = absurd (let z : ◌≡◌ {A = ℕ} 0 1 = cc in omega arith)
    go false true d w m k e = absurd (let z : ◌≡◌ {A = ℕ} 0 1 = cc in omega arith)
    go false false true w m k e = absurd (let z : ◌≡◌ {A = ℕ} 0 1 = cc in omega arith)
    go false false false w m k e = (refl, refl, cc)

    found : (ltb (place line) (length line) ≡ false) × (eqb (length line % 2) 1 ≡ false) × (n ≡ length line / 2)
    found = go (ltb (place line) (length line)) (eqb (length line % 2) 1) (ltb room (length line / 2)) (place line) (length line) (length line / 2) e

-- a refusal of the digits refuses the line
pub refused_line : (line : List ℕ) (room : ℕ) (fault : HexFault) → length line ≤ 64 → 32 ≤ room → Err fault ≡ reading line room → Small fault × (frame_of line ≡ Err (line_fault fault))
refused_line line room (WrongCharacter i) le enough e = wrong_character line room i le e
refused_line line room (OddCount n) le enough e = odd_count line room n le e
refused_line line room NoRoom le enough e = absurd (never_without_room line room le enough e)

pub heard_frame : (line front : List ℕ) (r : Result Call LineFault) → frame_of line ≡ Ok front → r ≡ call_of front → r ≡ heard line
heard_frame line front r is called = called ∙ sym (ap (λ (f : Result (List ℕ) LineFault). and_then f call_of) is)
