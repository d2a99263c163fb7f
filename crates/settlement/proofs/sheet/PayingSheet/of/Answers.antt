use Rattle.std.proofs.Common.{◌*◌, arith}
use Rattle.settlement.proofs.Tallying.{ended_at_end}
use Rattle.settlement.proofs.Prices.{price_within_money}
use Rattle.settlement.proofs.sheet.PayingSheet.of.Goals as goal

pub invariant_of-result-2 : goal.invariant_of-result-2
invariant_of-result-2 c =
    let p = c.args.prices in
    let t = c.args.totals.now in
    record {
      stands = simp (c.price_within-paid_price.ensures, c.from.ensures) (ended_at_end p.shortage p.surplus t.shortage t.surplus t.count t.stands);
      bound = (omega arith, rw c.price_within-paid_price.ensures (price_within_money (t.shortage * c.from.result) t.surplus p.surplus), omega arith);
    }
