-- A history with one outcome more.
use Rattle.std.proofs.Common.{◌≡◌, ℕ, zero, suc, ◌+◌, ◌<◌, ◌≤◌, ◌≢◌, List, [], ◌∷◌, length, get_or, set, sym, refl, ap, ◌∙◌, ap₂, add-one, arith, get_or-set_other, get_or-set_same}
use Rattle.rules.specs.declared.calls.Call.{Call}
use Rattle.rules.specs.declared.calls.Call.TheVariants.{Close}
use Rattle.rules.specs.Year.{Year, blank_year}
use Rattle.rules.specs.Judgement.{Answer}
use Rattle.rules.specs.Calls.{Called}
use Rattle.law.specs.Law.{Past}
use Rattle.law.specs.Told.{event}
use Rattle.law.proofs.Telling.{told_at_first, lawful_next}
use Rattle.law.proofs.Lawful.{lawful}
use Rattle.runs.specs.declared.Outcome.{Outcome}
use Rattle.runs.specs.Runs.{history, no_outcome, Ran}

history_same : (n i : ℕ) (calls : List Call) (outcomes : List Outcome) (o : Outcome) → n ≤ i → history n calls (set outcomes i o) ≡ history n calls outcomes
history_same zero i calls outcomes o le = refl
history_same (suc n) i calls outcomes o le =
    let apart : n ≢ i = omega arith in
    ap₂ (λ (x : Outcome) (p : Past). event x.shown (get_or calls n Close) x.answer ∷ p) (get_or-set_other outcomes i n o no_outcome apart) (history_same n i calls outcomes o (omega arith))

pub history_more : (calls : List Call) (outcomes : List Outcome) (i : ℕ) (c : Call) (o : Outcome) → i < length outcomes → c ≡ get_or calls i Close → history (i + 1) calls (set outcomes i o) ≡ event o.shown c o.answer ∷ history i calls outcomes
history_more calls outcomes i c o lt is =
    ap (λ (n : ℕ). history n calls (set outcomes i o)) (add-one i)
    ∙ ap₂ (λ (x : Outcome) (p : Past). event x.shown (get_or calls i Close) x.answer ∷ p) (get_or-set_same outcomes i o no_outcome lt) (history_same i i calls outcomes o (omega arith))
    ∙ ap (λ (k : Call). event o.shown k o.answer ∷ history i calls outcomes) (sym is)

pub ran_at_first : (f : ℕ → ℕ) (y : Year) (m : ℕ) → m ≤ 65535 → y ≡ blank_year → Ran f [] y f m
ran_at_first f y m few blank = let told = told_at_first f y m blank few in record { told = told; law = lawful f [] told.judged }

pub ran_next : (start : ℕ → ℕ) (p : Past) (c : Call) (r : Answer) (y y' : Year) (f g : ℕ → ℕ) (m n : ℕ) → Called c r y y' f g m n → Ran start p y f m → Ran start (event m c r ∷ p) y' g n
ran_next start p c r y y' f g m n called ran = let next = lawful_next start p c r y y' f g m n called ran.told in record { told = next.told; law = next.law }
