use Rattle.std.proofs.Common.{◌≡◌, ◌≤◌, ap, ◌∙◌, arith, w64, SFits, rules}
use Rattle.std.proofs.lemmas.Int.{to_z-of_z}
use Rattle.curves.specs.Obligations.{obligation_in_guarantees}
use Rattle.curves.proofs.Sums.{obligation_most}
use Rattle.settlement.specs.Rules.{widest_shortage}
use Rattle.rules.specs.Settling.{obligation_of}
use Rattle.accounts.proofs.settling.obligation_of.Goals as goal

answer : (c : goal.After-obligation) → c.obligation.result ≡ obligation_of c.args.terms.n c.args.terms.security c.args.account
answer c =
    let fits : SFits w64 c.both.result = search rules in
    let said = simp to_z-of_z at c.obligation.ensures in
    said ∙ ap (obligation_in_guarantees c.args.terms.n c.args.terms.security) c.both.ensures.answer

bound : (c : goal.After-obligation) → c.obligation.result ≤ widest_shortage
bound c = omega (arith, answer c, ap (obligation_in_guarantees c.args.terms.n c.args.terms.security) c.both.ensures.answer, obligation_most c.args.terms.n c.args.terms.security c.both.result c.args.terms.security_most c.both.ensures.bound)

pub overflow_cast-result : goal.overflow_cast-result
overflow_cast-result c = record { fits = omega (arith, bound c) }

pub returns : goal.returns
returns c = record { answer = answer c; bound = bound c }
