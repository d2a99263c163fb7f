use Rattle.std.proofs.Common.{◌≡◌, true, List, [], ◌∷◌, is_some, Err, sym, refl, ap, ◌∙◌, subst, arith}
use Rattle.std.proofs.lemmas.Result.{err_from_is_err_and}
use mathlib.Core.Bool.{Bool-set}
use mathlib.Core.Logic.{∥∥₁_map, ∥∥₁_elim}
use Rattle.ledger.specs.Rules.{known}
use Rattle.registers.specs.Held.{rows, room}
use Rattle.registers.specs.Rows.{lookup}
use Rattle.curves.proofs.Judging.{fine_if_accepted}
use Rattle.rules.specs.declared.records.Account.{Account}
use Rattle.rules.specs.declared.calls.Call.TheVariants.{Open}
use Rattle.rules.specs.declared.faults.RegistryFault.TheVariants.{InUse}
use Rattle.rules.specs.Refusals.{of_the_register}
use Rattle.rules.specs.Records.{account_number}
use Rattle.rules.specs.Facts.{with_accounts}
use Rattle.rules.specs.Calls.{Called}
use Rattle.registry.specs.Phases.{half_hours_of}
use Rattle.registry.specs.Model.{year_in}
use Rattle.registry.proofs.Calling.{refused, judged_by_ruling, open_ruled}
use Rattle.registry.proofs.Keeping.{kept_opened, refused_in_use, in_use_only}
use Rattle.registry.proofs.state.Book.open.Goals as goal

pub invariant_of-self : goal.invariant_of-self
invariant_of-self c =
    let s = c.args.self.now in
    let e = c.insert.ensures in
    let is_known = (fine_if_accepted 1 (known c.args.account ∷ []) tt tt (sym c.in_ok-account_in_range.ensures)).0 in
    record {
      account_places = e.unchanged ∙ s.account_places;
      entity_places = s.entity_places;
      offer_places = s.offer_places;
      kept = ∥∥₁_map s.kept (kept_opened (half_hours_of s.phase) c.args.account (room s.accounts) c.new_account.result (rows s.accounts) _ c.insert.result c.new_account.ensures is_known e.answer e.after);
      real = s.real;
    }

pub returns-in_err-insert : goal.returns-in_err-insert
returns-in_err-insert c f m stage =
    let s = c.args.self.now in
    let e = c.in_err-insert.ensures in
    let p = err_from_is_err_and c.from_residual-in_err-insert.result c.from_residual-in_err-insert.ensures.1 in
    let in_range = sym c.in_ok-account_in_range.ensures in
    let is_known = (fine_if_accepted 1 (known c.args.account ∷ []) tt tt in_range).0 in
    let fault = in_use_only (half_hours_of s.phase) c.args.account c.new_account.result (room s.accounts) (rows s.accounts) c.in_err-insert.field-0.0 c.new_account.ensures is_known s.account_places s.kept e.answer in
    let opened : is_some (lookup account_number c.args.account (rows c.args.self.now.accounts)) ≡ true
    = ∥∥₁_elim s.kept (Bool-set _ _) (λ kept. refused_in_use c.args.account c.new_account.result (room s.accounts) (rows s.accounts) c.in_err-insert.field-0.0 c.new_account.ensures is_known s.account_places kept.0 e.answer) in
    let is = judged_by_ruling (Open c.args.account) (year_in s) f m tt tt (Err (InUse 1)) stage in_range (open_ruled (year_in s) f m c.args.account opened) in
    let same : c.from_residual-in_err-insert.result ≡ Err (InUse 1) = p.1 ∙ ap Err (p.2 ∙ ap of_the_register fault) in
    rw same (subst (λ (xs : List Account). Called (Open c.args.account) (Err (InUse 1)) (year_in s) (with_accounts xs (year_in s)) f f m m) (sym e.after) (refused (Open c.args.account) (InUse 1) (year_in s) f f m m is (λ k. refl) (omega arith) (omega arith)))
