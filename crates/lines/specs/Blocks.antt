-- What a block of input is answered, byte by byte.
use Rattle.std.specs.Prelude.{◌≡◌, ℕ, List, [], ◌∷◌, ◌++◌, take, ◌≢◌}
use Rattle.rules.specs.Year.{Year}
use Rattle.law.specs.Law.{Past}
use Rattle.law.specs.Told.{Told}
use Rattle.frames.specs.Frames.{heard}
use Rattle.lines.specs.Lines.{Heard, GoesOn, answer_line}

-- How everything stands between two bytes: the line so far, the year, the holdings and the posts left.
pub record State : Type 0 where
  pub line : List ℕ
  pub year : Year
  pub holds : ℕ → ℕ
  pub posts : ℕ

-- The line so far with one byte more, held by its first 65.
abbrev pub longer_line : ℕ → State → State
longer_line b s = record { line = take 65 (s.line ++ (b ∷ [])); year = s.year; holds = s.holds; posts = s.posts }

-- The line that ends at byte 10 is read: its call is made if it writes one, any history goes on, and the next line begins.
pub record LineEnded (s t : State) : Type 0 where
  pub made : Heard (heard s.line) s.year t.year s.holds t.holds s.posts t.posts
  pub law : (start : ℕ → ℕ) (p : Past) → Told start p s.year s.holds s.posts → GoesOn (heard s.line) start p s.year t.year s.holds t.holds s.posts t.posts
  pub begins : t.line ≡ []

-- Bytes, one after another, take s to t and are answered by the lines `out`.
pub data Answered (s : State) : List ℕ → State → List ℕ → Type 0 where
  nothing_yet : Answered s [] s []
  one_byte : {bytes out : List ℕ} {t : State} (b : ℕ) → (b ≢ 10) → Answered s bytes t out → Answered s (bytes ++ (b ∷ [])) (longer_line b t) out
  line_end : {bytes out : List ℕ} {t : State} (u : State) → LineEnded t u → Answered s bytes t out → Answered s (bytes ++ (10 ∷ [])) u (out ++ answer_line t.line t.year t.holds t.posts)
