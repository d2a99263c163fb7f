-- A block answered, one byte after another.
use Rattle.std.proofs.Common.{◌≡◌, ℕ, ◌+◌, ◌<◌, ◌≤◌, Bool, true, false, List, [], ◌∷◌, ◌++◌, length, get_or, take, drop, Ok, Err, Result, sym, refl, ap, ◌∙◌, subst, arith}
use mathlib.Core.Path.{fun_ext}
use Rattle.std.proofs.lemmas.List.{take_more, take_at, append_assoc, length-append, length-take-le, drop-drop, drop_at, take_all}
use Rattle.rules.specs.Year.{Year}
use Rattle.frames.specs.declared.fault.LineFault.{LineFault}
use Rattle.frames.specs.Answers.{over}
use Rattle.lines.specs.Lines.{Reading, LineRead, Refused, Unchanged, answer_line}
use Rattle.lines.specs.Blocks.{State, longer_line, LineEnded, Answered, nothing_yet, one_byte, line_end}

-- what the loop keeps: the block up to i is answered by the first `written` bytes of the answer space, and the others are as they were
pub record UpTo (s : State) (block : List ℕ) (i : ℕ) (t : State) (first answers : List ℕ) (written : ℕ) : Type 0 where
  pub answered : Answered s (take i block) t (take written answers)
  pub rest : drop written answers ≡ drop written first
  pub same_length : length answers ≡ length first
  pub within : written ≤ length first

pub at_first : (s : State) (block first : List ℕ) → UpTo s block 0 s first first 0
at_first s block first = record { answered = nothing_yet; rest = refl; same_length = refl; within = omega arith }

-- one byte more of a line
pub up_to_byte : (s t : State) (block first answers : List ℕ) (i written : ℕ) → i < length block → (get_or block i 0 ≡ 10 → ⊥) → UpTo s block i t first answers written → UpTo s block (i + 1) (longer_line (get_or block i 0) t) first answers written
up_to_byte s t block first answers i written lt other so =
    record {
      answered = subst (λ (bytes : List ℕ). Answered s bytes (longer_line (get_or block i 0) t) (take written answers)) (sym (take_more block i 0 lt)) (one_byte (get_or block i 0) other so.answered);
      rest = so.rest;
      same_length = so.same_length;
      within = so.within;
    }

-- the front and the rest of a space with a line written over it
over_front : (answers line : List ℕ) (written : ℕ) → written + length line ≤ length answers → take (written + length line) (over answers written line) ≡ take written answers ++ line
over_front answers line written fits =
    let n : length (take written answers ++ line) ≡ written + length line = omega (arith, length-append (take written answers) line, length-take-le written answers (omega arith)) in
    ap (take (written + length line)) (sym (append_assoc (take written answers) line (drop (written + length line) answers))) ∙ take_at (take written answers ++ line) (drop (written + length line) answers) (written + length line) n

over_rest : (answers line : List ℕ) (written : ℕ) → written + length line ≤ length answers → drop (written + length line) (over answers written line) ≡ drop (written + length line) answers
over_rest answers line written fits =
    let n : length (take written answers ++ line) ≡ written + length line = omega (arith, length-append (take written answers) line, length-take-le written answers (omega arith)) in
    ap (drop (written + length line)) (sym (append_assoc (take written answers) line (drop (written + length line) answers))) ∙ drop_at (take written answers ++ line) (drop (written + length line) answers) (written + length line) n

rest_later : (answers first : List ℕ) (written more : ℕ) → drop written answers ≡ drop written first → drop (written + more) answers ≡ drop (written + more) first
rest_later answers first written more same = sym (drop-drop more written answers) ∙ ap (drop more) same ∙ drop-drop more written first

-- a line was read, or there was no space for its answer
pub was_read : (fine : Bool) (line w w' a a' : List ℕ) (at n : ℕ) (r : Result ℕ LineFault) (y y' : Year) (f g : ℕ → ℕ) (p q : ℕ) → Reading fine line w w' a a' at r y y' f g p q → r ≡ Ok n → LineRead line w w' a a' at r y y' f g p q
was_read true line w w' a a' at n r y y' f g p q so is = so
was_read false line w w' a a' at n r y y' f g p q so is = let e = so.answer in absurd (let z : ◌≡◌ {A = ℕ} 0 1 = cc in omega arith)

pub was_refused : (fine : Bool) (line w w' a a' : List ℕ) (at : ℕ) (fault : LineFault) (r : Result ℕ LineFault) (y y' : Year) (f g : ℕ → ℕ) (p q : ℕ) → Reading fine line w w' a a' at r y y' f g p q → r ≡ Err fault → Refused w w' a a' r y y' f g p q
was_refused true line w w' a a' at fault r y y' f g p q so is = let e = so.answer in absurd (let z : ◌≡◌ {A = ℕ} 0 1 = cc in omega arith)
was_refused false line w w' a a' at fault r y y' f g p q so is = so

-- one line more
pub up_to_line : (s : State) (block first w w' a a' line next : List ℕ) (i written n : ℕ) (r : Result ℕ LineFault) (y y' : Year) (f g : ℕ → ℕ) (p q : ℕ) → i < length block → get_or block i 0 ≡ 10 → next ≡ [] → written + n ≤ length a → length a' ≡ length a
    → LineRead line w w' a a' written r y y' f g p q → r ≡ Ok n
    → UpTo s block i (record { line = line; year = y; holds = f; posts = p }) first a written
    → UpTo s block (i + 1) (record { line = next; year = y'; holds = g; posts = q }) first a' (written + n)
up_to_line s block first w w' a a' line next i written n r y y' f g p q lt ends fresh room same_size read is so =
    let count : n ≡ length (answer_line line y f p) = (let e = read.answer in cc) in
    let fits : written + length (answer_line line y f p) ≤ length a = omega (arith, room, count) in
    let ended : LineEnded (record { line = line; year = y; holds = f; posts = p }) (record { line = next; year = y'; holds = g; posts = q }) = record { made = read.made; law = read.law; begins = fresh } in
    let bytes : take i block ++ (10 ∷ []) ≡ take (i + 1) block = sym (take_more block i 0 lt ∙ ap (λ (b : ℕ). take i block ++ (b ∷ [])) ends) in
    let front : take written a ++ answer_line line y f p ≡ take (written + n) a' = sym (ap (take (written + n)) read.written ∙ ap (λ (k : ℕ). take (written + k) (over a written (answer_line line y f p))) count ∙ over_front a (answer_line line y f p) written fits) in
    let back : drop (written + n) a' ≡ drop (written + n) a = ap (drop (written + n)) read.written ∙ ap (λ (k : ℕ). drop (written + k) (over a written (answer_line line y f p))) count ∙ over_rest a (answer_line line y f p) written fits ∙ ap (λ (k : ℕ). drop (written + k) a) (sym count) in
    record {
      answered = subst (λ (out : List ℕ). Answered s (take (i + 1) block) (record { line = next; year = y'; holds = g; posts = q }) out) front (subst (λ (bs : List ℕ). Answered s bs (record { line = next; year = y'; holds = g; posts = q }) (take written a ++ answer_line line y f p)) bytes (line_end (record { line = next; year = y'; holds = g; posts = q }) ended so.answered));
      rest = back ∙ rest_later a first written n so.rest;
      same_length = same_size ∙ so.same_length;
      within = omega (arith, fits, count, so.same_length);
    }

-- a line without space for its answer leaves everything as it stood
pub same_state : (y y' : Year) (f g : ℕ → ℕ) (p q : ℕ) (line : List ℕ) → Unchanged y y' f g p q → ◌≡◌ {A = State} (record { line = line; year = y; holds = f; posts = p }) (record { line = line; year = y'; holds = g; posts = q })
same_state y y' f g p q line so =
    ap (λ (z : Year). record { line = line; year = z; holds = f; posts = p }) (sym so.year)
    ∙ ap (λ (h : ℕ → ℕ). record { line = line; year = y'; holds = h; posts = p }) (sym (fun_ext so.holds))
    ∙ ap (λ (k : ℕ). record { line = line; year = y'; holds = g; posts = k }) (sym so.posts)

pub same_parts : (l l' : List ℕ) (y y' : Year) (f f' : ℕ → ℕ) (m m' : ℕ) → l ≡ l' → y ≡ y' → f ≡ f' → m ≡ m' → ◌≡◌ {A = State} (record { line = l; year = y; holds = f; posts = m }) (record { line = l'; year = y'; holds = f'; posts = m' })
same_parts l l' y y' f f' m m' a b c d =
    ap (λ (x : List ℕ). record { line = x; year = y; holds = f; posts = m }) a
    ∙ ap (λ (x : Year). record { line = l'; year = x; holds = f; posts = m }) b
    ∙ ap (λ (x : ℕ → ℕ). record { line = l'; year = y'; holds = x; posts = m }) c
    ∙ ap (λ (x : ℕ). record { line = l'; year = y'; holds = f'; posts = x }) d

pub moved_to : (s t t' : State) (block first answers answers' : List ℕ) (i written written' : ℕ) → t' ≡ t → answers' ≡ answers → written' ≡ written → UpTo s block i t first answers written → UpTo s block i t' first answers' written'
moved_to s t t' block first answers answers' i written written' a b c so =
    subst (λ (x : State). UpTo s block i x first answers' written') (sym a) (subst (λ (x : List ℕ). UpTo s block i t first x written') (sym b) (subst (λ (x : ℕ). UpTo s block i t first answers x) (sym c) so))

-- the whole block
pub up_to_end : (s t : State) (block first answers : List ℕ) (i written : ℕ) → length block ≤ i → UpTo s block i t first answers written → UpTo s block (length block) t first answers written
up_to_end s t block first answers i written past so =
    let all : take i block ≡ take (length block) block = take_all i block past ∙ sym (take_all (length block) block (omega arith)) in
    record { answered = subst (λ (bytes : List ℕ). Answered s bytes t (take written answers)) all so.answered; rest = so.rest; same_length = so.same_length; within = so.within }
