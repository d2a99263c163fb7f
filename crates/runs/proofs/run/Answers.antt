use Rattle.std.proofs.Common.{◌≡◌, ℕ, ◌<◌, min, List, ◌∷◌, length, get_or, take, sym, ap, ◌∙◌, subst, arith, length-set}
use Rattle.std.proofs.lemmas.List.{get_or_default, get_or-take, length-take-le}
use Rattle.rules.specs.declared.calls.Call.{Call}
use Rattle.rules.specs.declared.calls.Call.TheVariants.{Begin, Close}
use Rattle.registry.specs.Model.{year_in}
use Rattle.law.specs.Law.{Past}
use Rattle.law.specs.Told.{event}
use Rattle.runs.specs.declared.Outcome.{Outcome}
use Rattle.runs.specs.Runs.{history, Ran}
use Rattle.runs.proofs.Histories.{history_more, ran_next}
use Rattle.runs.proofs.run.Goals as goal

-- as many calls are taken as there are places for
taken : (calls : List Call) (outcomes : List Outcome) (n : ℕ) → n ≡ min (length calls) (length outcomes) → length (take n calls) ≡ n
taken calls outcomes n is = length-take-le n calls (omega (arith, is))

pub loop-i-preserved : goal.loop-i-preserved
loop-i-preserved g c =
    let m = g.L.Ledger in
    let calls = c.args.calls.now in
    let outcomes = c.loop-i.outcomes in
    let i = c.loop-i.i in
    let n = c.min-count.result in
    let start = m.holding c.args.ledger.now in
    let call = get_or (take n calls) i (Begin 0 0) in
    let answer = c.call-answer.result in
    let outcome : Outcome = record { shown = c.left-shown.result; answer = answer } in
    let all = taken calls c.args.outcomes.now n c.min-count.ensures in
    let before : i < n = omega (arith, all, c.loop-i-test.true) in
    let among : i < length calls = omega (arith, before, c.min-count.ensures) in
    let within : i < length outcomes = omega (arith, before, c.min-count.ensures, c.loop-i.invariant.1) in
    let more = history_more calls outcomes i call outcome within (get_or-take n calls i (Begin 0 0) before ∙ get_or_default calls i (Begin 0 0) Close among) in
    let shown : event c.left-shown.result call answer ∷ history i calls outcomes ≡ event (m.posts c.loop-i.ledger) call answer ∷ history i calls outcomes = ap (λ n. event n call answer ∷ history i calls outcomes) c.left-shown.ensures in
    let P : Past → Type 0 = λ p. Ran start p (year_in c.call-answer.new.self) (m.holding c.call-answer.new.ledger) (m.posts c.call-answer.new.ledger) in (
      omega (arith, before),
      simp length-set c.loop-i.invariant.1,
      λ blank. subst P (sym (more ∙ shown)) (ran_next start (history i calls outcomes) call answer _ _ _ _ _ _ c.call-answer.ensures.called (c.loop-i.invariant.2 blank)),
    )
