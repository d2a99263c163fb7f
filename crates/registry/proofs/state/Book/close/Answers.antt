use Rattle.std.proofs.Common.{sym, ◌∙◌, subst}
use Rattle.registers.specs.Held.{rows}
use Rattle.postings.specs.Offers.{Real}
use Rattle.accounts.specs.Bounds.{Kept}
use Rattle.registry.specs.declared.phase.Phase.{Phase}
use Rattle.registry.specs.Phases.{half_hours_of}
use Rattle.registry.proofs.state.Book.close.Goals as goal

pub invariant_of-self : goal.invariant_of-self
invariant_of-self g c =
    let s = c.args.self.now in
    let e = c.clear.ensures in
    record {
      account_places = s.account_places;
      entity_places = s.entity_places;
      offer_places = e.unchanged ∙ s.offer_places;
      kept = subst (λ (p : Phase). ∥ Kept (half_hours_of p) (rows s.accounts) ∥₁) c.requires s.kept;
      real = ∣ subst Real (sym e.after) tt ∣₁;
    }
