use Rattle.std.proofs.Common.{◌≡◌, List, Some, sym, subst}
use Rattle.registers.specs.Held.{rows}
use Rattle.registers.specs.Rows.{lookup}
use Rattle.rules.specs.declared.records.Account.{Account}
use Rattle.rules.specs.declared.faults.RegistryFault.TheVariants.{NotOpen}
use Rattle.rules.specs.Records.{account_number}
use Rattle.rules.specs.Year.{account_in}
use Rattle.accounts.specs.Bounds.{Kept}
use Rattle.registry.specs.declared.phase.Phase.{Phase}
use Rattle.registry.specs.Phases.{half_hours_of}
use Rattle.registry.specs.Model.{year_in}
use Rattle.registry.proofs.Keeping.{found_by_number, some_if_ok}
use Rattle.registry.proofs.state.Book.report.Goals as goal

pub invariant_of-accounts : goal.invariant_of-accounts
invariant_of-accounts g c =
    let s = c.args.self.now in
    record { kept = subst (λ (xs : List Account). ∥ Kept c.args.terms.n xs ∥₁) (sym c.records.ensures.answer) (subst (λ (p : Phase). ∥ Kept (half_hours_of p) (rows s.accounts) ∥₁) c.requires s.kept) }

pub statement-requires : goal.statement-requires
statement-requires g c =
    let s = c.args.self.now in
    let found = some_if_ok (account_in (year_in s) c.args.account) c.in_ok-found.found (NotOpen 1) c.in_ok-found.ensures in
    subst (λ (xs : List Account). lookup account_number c.in_ok-found.found.number xs ≡ Some c.in_ok-found.found) (sym c.records.ensures.answer) (found_by_number c.args.account (rows s.accounts) c.in_ok-found.found (sym found))
