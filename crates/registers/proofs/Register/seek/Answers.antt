use Rattle.std.proofs.Common.{◌-◌, take, drop, ap, rules, Ok, Err}
use Rattle.std.proofs.lemmas.List.Sorted.{answers_always}
use Rattle.registers.specs.Held.{rows}
use Rattle.registers.proofs.Search.{searched}
use Rattle.registers.proofs.Register.seek.Goals as goal

pub returns-in-Ok : goal.returns-in-Ok
returns-in-Ok g c =
    let key = g.R.Keyed.key in
    let self = c.args.self.now in
    let span = c.span-start in
    let a = span.result.0 in
    let b = span.result.1 in
    let part = ap (λ xs. take (b - a) (drop a xs)) c.records.ensures.answer in
    searched key c.args.number (rows self) self.rising a b _ part span.ensures.within.0 span.ensures.within.1 (Ok c.in-Ok.i) span.ensures.ahead span.ensures.behind c.in-Ok.ensures.bound (c.in-Ok.ensures.position key (answers_always _ _ _ (λ f a r g called. search rules)))

pub returns-in-Err : goal.returns-in-Err
returns-in-Err g c =
    let key = g.R.Keyed.key in
    let self = c.args.self.now in
    let span = c.span-start in
    let a = span.result.0 in
    let b = span.result.1 in
    let part = ap (λ xs. take (b - a) (drop a xs)) c.records.ensures.answer in
    searched key c.args.number (rows self) self.rising a b _ part span.ensures.within.0 span.ensures.within.1 (Err c.in-Err.i) span.ensures.ahead span.ensures.behind c.in-Err.ensures.bound (c.in-Err.ensures.position key (answers_always _ _ _ (λ f a r g called. search rules)))
