use Rattle.std.proofs.Common.{rules, arith, ◌≡◌, ◌≤◌, [], ◌∷◌, ◌++◌, length, is_some, true, not, get_or, take, ap, ◌∙◌, length-append}
use Rattle.std.proofs.lemmas.List.{take_all, take_more}
use Rattle.std.proofs.lemmas.List.Folds.{length-flat_map-take}
use Rattle.std.proofs.lemmas.Bool.Decides.{nat_tests}
use Rattle.std.proofs.lemmas.Bool.{cond-true}
use Rattle.std.proofs.lemmas.Grind.{flat_map-append}
use Rattle.digits.specs.Frames.{field_bytes}
use Rattle.digits.specs.declared.frame.Field.TheVariants.{Byte}
use Rattle.digits.proofs.Composed.{composed_is}
use Rattle.digits.proofs.frame.Frame.of.Goals as goal

pub returns-then-is_none : goal.returns-then-is_none
returns-then-is_none c =
    let all = composed_is c.args.fields.now in
    let more = length-flat_map-take field_bytes c.args.fields.now c.loop-field.field-index (Byte 0) c.loop-field-test.true in
    grind (arith, nat_tests)

pub loop-field-preserved : goal.loop-field-preserved
loop-field-preserved c =
    let some : is_some c.push.result ≡ true = c.is_none.ensures ∙ ap not c.if-is_none.false in
    let longer : c.push.new.self ≡ c.loop-field.frame ++ field_bytes (get_or c.args.fields.now c.loop-field.field-index (Byte 0)) = c.push.ensures.after ∙ cond-true _ _ _ some in
    let fits : length c.push.new.self ≤ 30 = grind (arith, nat_tests, length-append) in
    let front = take_more c.args.fields.now c.loop-field.field-index (Byte 0) c.loop-field-test.true in
    let parts = flat_map-append field_bytes (take c.loop-field.field-index c.args.fields.now) (get_or c.args.fields.now c.loop-field.field-index (Byte 0) ∷ []) in
    (search (rules, longer, front, parts), fits)

pub returns : goal.returns
returns c =
    let all = composed_is c.args.fields.now in
    let front = take_all c.loop-field.field-index c.args.fields.now c.loop-field-test.false in
    grind (arith, nat_tests)
