-- What reading a line answers, and all that it leaves.
use Rattle.std.specs.Prelude.{◌≡◌, ℕ, ◌+◌, Bool, true, false, ◌&&◌, List, length, replicate, Ok, Err, Result, nat_le}
use Rattle.rules.specs.declared.calls.Call.{Call}
use Rattle.rules.specs.declared.calls.Reply.{Reply}
use Rattle.rules.specs.Year.{Year}
use Rattle.rules.specs.Judgement.{Answer, judge}
use Rattle.rules.specs.Calls.{Called}
use Rattle.law.specs.Law.{Past}
use Rattle.law.specs.Told.{Told, LawfulNext, event}
use Rattle.frames.specs.declared.fault.LineFault.{LineFault}
use Rattle.frames.specs.declared.fault.LineFault.TheVariants.{NoSpace, Registry}
use Rattle.frames.specs.Frames.{heard, and_then}
use Rattle.frames.specs.Kinds.{kind_of_call}
use Rattle.frames.specs.Answers.{answer_bytes, line_of, over}

-- The working space has 32 bytes at least, and the answer space 61 from the given place on.
abbrev pub spaces_fine : List ℕ → List ℕ → ℕ → Bool
spaces_fine working answers at = nat_le 32 (length working) && nat_le (at + 61) (length answers)

-- An answer of the book, beside the kind of its call.
abbrev pub with_kind : Call → Answer → Result (ℕ × Reply) LineFault
with_kind call (Ok reply) = Ok (kind_of_call call, reply)
with_kind call (Err fault) = Err (Registry fault)

-- What a line is answered in the year y, where f are the holdings and m the posts left.
abbrev pub said : List ℕ → Year → (ℕ → ℕ) → ℕ → Result (ℕ × Reply) LineFault
said line y f m = and_then (heard line) (λ call. with_kind call (judge y f m call))

-- The answer line.
abbrev pub answer_line : List ℕ → Year → (ℕ → ℕ) → ℕ → List ℕ
answer_line line y f m = line_of (answer_bytes (said line y f m))

-- Nothing changes.
pub record Unchanged (y y' : Year) (f g : ℕ → ℕ) (m n : ℕ) : Type 0 where
  pub year : y' ≡ y
  pub holds : (k : ℕ) → g k ≡ f k
  pub posts : n ≡ m

-- A line that writes a call makes that call; any other changes nothing.
abbrev pub Heard : Result Call LineFault → Year → Year → (ℕ → ℕ) → (ℕ → ℕ) → ℕ → ℕ → Type 0
Heard (Ok call) y y' f g m n = Called call (judge y f m call) y y' f g m n
Heard (Err fault) y y' f g m n = Unchanged y y' f g m n

-- The history goes on with the call of a line that writes one, and the law holds; else it stays.
abbrev pub GoesOn : Result Call LineFault → (ℕ → ℕ) → Past → Year → Year → (ℕ → ℕ) → (ℕ → ℕ) → ℕ → ℕ → Type 0
GoesOn (Ok call) start p y y' f g m n = LawfulNext start (event m call (judge y f m call)) p y' g n
GoesOn (Err fault) start p y y' f g m n = Told start p y' g n

-- Reading a line with spaces that are large enough.
pub record LineRead (line working working' answers answers' : List ℕ) (at : ℕ) (r : Result ℕ LineFault) (y y' : Year) (f g : ℕ → ℕ) (m n : ℕ) : Type 0 where
  pub answer : r ≡ Ok (length (answer_line line y f m))
  pub cleared : working' ≡ replicate (length working) 0
  pub written : answers' ≡ over answers at (answer_line line y f m)
  pub made : Heard (heard line) y y' f g m n
  pub law : (start : ℕ → ℕ) (p : Past) → Told start p y f m → GoesOn (heard line) start p y y' f g m n

-- Too little space: nothing is read, written or changed.
pub record Refused (working working' answers answers' : List ℕ) (r : Result ℕ LineFault) (y y' : Year) (f g : ℕ → ℕ) (m n : ℕ) : Type 0 where
  pub answer : r ≡ Err NoSpace
  pub same_working : working' ≡ working
  pub same_answers : answers' ≡ answers
  pub unchanged : Unchanged y y' f g m n

abbrev pub Reading : Bool → (line working working' answers answers' : List ℕ) (at : ℕ) (r : Result ℕ LineFault) (y y' : Year) (f g : ℕ → ℕ) (m n : ℕ) → Type 0
Reading true line w w' a a' at r y y' f g m n = LineRead line w w' a a' at r y y' f g m n
Reading false line w w' a a' at r y y' f g m n = Refused w w' a a' r y y' f g m n
