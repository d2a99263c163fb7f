-- Lines of base-sixteen digits: what bytes are written as, and what a line is read as.
use Rattle.std.specs.Prelude.{ℕ, ◌+◌, ◌-◌, ◌*◌, ◌/◌, ◌%◌, Bool, cond, not, ◌&&◌, ◌||◌, List, [], ◌∷◌, length, Some, None, Ok, Err, Option, Result, ◌==◌, nat_le, nat_lt, position}
use Rattle.std.specs.Option.{option_map_or}
use Rattle.digits.specs.declared.hex.HexFault.{HexFault}
use Rattle.digits.specs.declared.hex.HexFault.TheVariants.{WrongCharacter, OddCount, NoRoom}

-- The character of a number below 16: 48 is the code of 0, and 97 that of a.
abbrev pub digit : ℕ → ℕ
digit n = cond (nat_lt n 10) (48 + n) (97 + (n - 10))

-- The digits of bytes: two for each, the high one first.
abbrev pub digits : List ℕ → List ℕ
digits [] = []
digits (b ∷ bs) = digit (b / 16) ∷ digit (b % 16) ∷ digits bs

-- Whether a character is a lowercase digit: 0 to 9, or a to f.
abbrev pub is_digit : ℕ → Bool
is_digit c = (nat_le 48 c && nat_lt c 58) || (nat_le 97 c && nat_lt c 103)

-- What a digit stands for.
abbrev pub worth : ℕ → ℕ
worth c = cond (nat_lt c 58) (c - 48) (c - 97 + 10)

-- The place of the first character that is no digit, if there is one.
abbrev pub first_wrong : List ℕ → Option ℕ
first_wrong line = position (λ c. not (is_digit c)) line

-- The bytes that pairs of digits stand for; a last digit without its fellow is left out.
abbrev pub bytes_of : List ℕ → List ℕ
bytes_of [] = []
bytes_of (h ∷ []) = []
bytes_of (h ∷ l ∷ cs) = (16 * worth h + worth l) ∷ bytes_of cs

-- How many characters bytes are written as, if as many fit.
abbrev pub writing : List ℕ → ℕ → Option ℕ
writing bytes room = cond (nat_le (2 * length bytes) room) (Some (2 * length bytes)) None

-- How many bytes a line is read as, or why it is refused: a wrong character first, then an odd count, then no room.
abbrev pub reading : List ℕ → ℕ → Result ℕ HexFault
reading line room =
    option_map_or (λ place. Err (WrongCharacter place)) (first_wrong line)
    (cond (length line % 2 == 1) (Err (OddCount (length line)))
    (cond (nat_lt room (length line / 2)) (Err NoRoom) (Ok (length line / 2))))
