use Rattle.std.proofs.Common.{◌∙◌}
use mathlib.Core.Logic.{∥∥₁_map}
use Rattle.registers.specs.Held.{rows}
use Rattle.registry.proofs.Keeping.{real_without}
use Rattle.registry.proofs.state.Book.end.Goals as goal

pub invariant_of-self : goal.invariant_of-self
invariant_of-self g c =
    let s = c.args.self.now in
    let e = c.remove.ensures in
    record {
      account_places = s.account_places;
      entity_places = s.entity_places;
      offer_places = e.unchanged ∙ s.offer_places;
      kept = s.kept;
      real = ∥∥₁_map s.real (real_without _ (rows s.offers) _ e.after);
    }
