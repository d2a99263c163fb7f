use Rattle.std.proofs.Common.{◌≡◌, ap, arith}
use mathlib.Core.Logic.{∥∥₁_map}
use Rattle.registers.specs.Held.{rows}
use Rattle.registry.specs.Phases.{half_hours_of}
use Rattle.registry.proofs.Keeping.{kept_longer}
use Rattle.registry.proofs.state.Book.begin.Goals as goal

pub invariant_of-self : goal.invariant_of-self
invariant_of-self g c =
    let s = c.args.self.now in
    let none : half_hours_of s.phase ≡ 0 = ap half_hours_of c.requires in
    record {
      account_places = s.account_places;
      entity_places = s.entity_places;
      offer_places = s.offer_places;
      kept = ∥∥₁_map s.kept (kept_longer (half_hours_of s.phase) _ (rows s.accounts) (omega (arith, none)));
      real = s.real;
    }
