use Rattle.std.proofs.Common.{sym, ◌∙◌, arith}
use mathlib.Core.Logic.{∥∥₁_map, ∥∥₁_elim}
use native.Mathlib.Bridge.{le_prop}
use Rattle.registers.specs.Held.{rows}
use Rattle.rules.specs.declared.faults.RegistryFault.TheVariants.{NotOpen}
use Rattle.rules.specs.Year.{account_in}
use Rattle.accounts.specs.Bounds.{Kept}
use Rattle.registry.specs.Phases.{half_hours_of}
use Rattle.registry.specs.Model.{year_in}
use Rattle.registry.proofs.Keeping.{half_hours_most, some_if_ok}
use Rattle.registry.proofs.Loading.{fine_in_year, load_in_year, load_called, bounds_of, kept_loaded}
use Rattle.registry.proofs.state.Book.load.Goals as goal

pub with_step-requires : goal.with_step-requires
with_step-requires c =
    let s = c.args.self.now in
    let found = some_if_ok (account_in (year_in s) c.args.account) c.in_ok-found.found (NotOpen 1) c.in_ok-found.ensures in
    let at = λ (kept : Kept (half_hours_of s.phase) (rows s.accounts)). bounds_of (half_hours_of s.phase) c.args.account (rows s.accounts) c.in_ok-found.found found kept in
    let most = half_hours_most s.phase in
    let fine = fine_in_year (year_in s) c.args.terms.n c.args.account c.args.number c.args.step _ (sym c.requires) c.in_ok-addition.ensures.answer in
    let in_year = load_in_year (year_in s) c.args.account c.args.number c.args.step c.in_ok-addition.addition fine in
    let a = ∥∥₁_elim s.kept le_prop (λ k. (at k).0.0) in
    let b = ∥∥₁_elim s.kept le_prop (λ k. (at k).0.1) in
    let d = ∥∥₁_elim s.kept le_prop (λ k. (at k).1.0) in
    let e = ∥∥₁_elim s.kept le_prop (λ k. (at k).1.1) in
    record {
      profiled = (omega (arith, a, most), b);
      losses = (omega (arith, d, most), e);
      number = omega (arith, in_year, most);
      small = c.in_ok-addition.ensures.bound;
    }

pub returns : goal.returns
returns c f m stage =
    let s = c.args.self.now in
    let found = some_if_ok (account_in (year_in s) c.args.account) c.in_ok-found.found (NotOpen 1) c.in_ok-found.ensures in
    let fine = fine_in_year (year_in s) c.args.terms.n c.args.account c.args.number c.args.step _ (sym c.requires) c.in_ok-addition.ensures.answer in
    load_called (year_in s) f m c.args.account c.args.number c.args.step c.in_ok-addition.addition c.in_ok-found.found stage fine found c.in_ok-grown.grown (rows c.replace.new.self) c.in_ok-grown.ensures c.replace.ensures.after

pub invariant_of-self : goal.invariant_of-self
invariant_of-self c =
    let s = c.args.self.now in
    let e = c.replace.ensures in
    let found = some_if_ok (account_in (year_in s) c.args.account) c.in_ok-found.found (NotOpen 1) c.in_ok-found.ensures in
    let fine = fine_in_year (year_in s) c.args.terms.n c.args.account c.args.number c.args.step _ (sym c.requires) c.in_ok-addition.ensures.answer in
    let in_year = load_in_year (year_in s) c.args.account c.args.number c.args.step c.in_ok-addition.addition fine in
    record {
      account_places = e.unchanged ∙ s.account_places;
      entity_places = s.entity_places;
      offer_places = s.offer_places;
      kept = ∥∥₁_map s.kept (kept_loaded (half_hours_of s.phase) c.args.account c.args.number c.in_ok-addition.addition c.in_ok-found.found c.in_ok-grown.grown (rows s.accounts) _ found in_year c.in_ok-addition.ensures.bound c.in_ok-grown.ensures e.after);
      real = s.real;
    }
