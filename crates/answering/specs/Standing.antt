-- How a book that answers stands, and what it answers.
use Rattle.std.specs.Prelude.{◌≡◌, ℕ, true, false, cond, List, [], length, Option, ◌==◌}
use Rattle.std.specs.Io.KnownBytes.{Appends}
use Rattle.registry.specs.Model.{year_in}
use Rattle.lines.specs.Lines.{answer_line}
use Rattle.lines.specs.Blocks.{State, LineEnded, Answered}
use Rattle.answering.specs.declared.Answering.{Answering}

-- The line so far, the year, and the ledger's holdings and posts left.
abbrev pub standing : {L W : Type 0} → (L → ℕ → ℕ) → (L → ℕ) → Answering L W → State
standing holding posts a = record { line = a.buffer; year = year_in a.book; holds = holding a.ledger; posts = posts a.ledger }

-- Bytes take s to t, and the output, where it was `before`, has gained the lines that answer them.
abbrev pub AnsweredTo : State → List ℕ → State → Option (List ℕ) → Option (List ℕ) → Type 0
AnsweredTo s bytes t before after = (out : List ℕ) × Answered s bytes t out × Appends before after out

-- The answer to a line that the end of the input ends; none to no line.
abbrev pub last_line : State → List ℕ
last_line s = cond (length s.line == 0) [] (answer_line s.line s.year s.holds s.posts)

-- A line that the end of the input ends is read like any other; with no line everything stays.
pub record Finished (s t : State) : Type 0 where
  pub stays : (length s.line == 0) ≡ true → t ≡ s
  pub ends : (length s.line == 0) ≡ false → LineEnded s t
