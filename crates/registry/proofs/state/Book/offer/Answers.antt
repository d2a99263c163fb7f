use Rattle.std.proofs.Common.{[], ◌∷◌, sym, ◌∙◌}
use mathlib.Core.Logic.{∥∥₁_map}
use Rattle.ledger.specs.Rules.{known, limit}
use Rattle.curves.specs.Ranges.{within}
use Rattle.curves.proofs.Judging.{fine_if_accepted}
use Rattle.registers.specs.Held.{rows, room}
use Rattle.rules.specs.Judgement.{number_fine}
use Rattle.registry.proofs.Keeping.{real_inserted}
use Rattle.registry.proofs.state.Book.offer.Goals as goal

pub invariant_of-self : goal.invariant_of-self
invariant_of-self g c =
    let s = c.args.self.now in
    let e = c.insert.ensures in
    let fine = fine_if_accepted 1 (number_fine c.args.offer ∷ known c.args.seller ∷ known c.args.buyer ∷ within 1 limit c.args.amount ∷ []) tt tt (sym c.in_ok-offer_in_range.ensures) in
    record {
      account_places = s.account_places;
      entity_places = s.entity_places;
      offer_places = e.unchanged ∙ s.offer_places;
      kept = s.kept;
      real = ∥∥₁_map s.real (real_inserted (record { number = c.args.offer; seller = c.args.seller; buyer = c.args.buyer; amount = c.args.amount }) (room s.offers) (rows s.offers) _ c.insert.result fine.1.0 fine.1.1.1.0 e.answer e.after);
    }
