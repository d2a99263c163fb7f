use Rattle.std.proofs.Common.{rules}
use Rattle.std.proofs.lemmas.Iterator.{YieldsList-from_slice, YieldsList-from_take}
use Rattle.std.proofs.lemmas.Iterator.Consumers.{fold_from_yields_List}
use Rattle.digits.proofs.Bytes.{shifted_in, field_shifted}
use Rattle.digits.proofs.numbers.bits_of.Goals as goal

pub returns : goal.returns
returns c =
    let shifted = fold_from_yields_List _ shifted_in 0 c.fold.result c.fold.ensures.ran (YieldsList-from_take c.args.width (YieldsList-from_slice c.args.bytes.now cc) cc) (λ bits x b q k. search rules) in
    let said = field_shifted c.args.bytes.now 0 c.args.width c.fold.result c.type_inv.bytes c.requires shifted in
    record { answer = said.0; bound = said.1 }
