use Rattle.std.proofs.Common.{List, sym, subst}
use Rattle.registers.specs.Held.{rows}
use Rattle.rules.specs.declared.records.Account.{Account}
use Rattle.accounts.specs.Bounds.{Kept}
use Rattle.registry.specs.declared.phase.Phase.{Phase}
use Rattle.registry.specs.Phases.{half_hours_of}
use Rattle.registry.proofs.state.Book.settle.Goals as goal

pub invariant_of-settlement : goal.invariant_of-settlement
invariant_of-settlement g c =
    let s = c.args.self.now in
    record { kept = subst (λ (xs : List Account). ∥ Kept c.args.terms.n xs ∥₁) (sym c.records-accounts.ensures.answer) (subst (λ (p : Phase). ∥ Kept (half_hours_of p) (rows s.accounts) ∥₁) c.requires s.kept) }

pub invariant_of-self : goal.invariant_of-self
invariant_of-self g c =
    let s = c.args.self.now in
    record {
      account_places = s.account_places;
      entity_places = s.entity_places;
      offer_places = s.offer_places;
      kept = subst (λ (p : Phase). ∥ Kept (half_hours_of p) (rows s.accounts) ∥₁) c.requires s.kept;
      real = s.real;
    }
