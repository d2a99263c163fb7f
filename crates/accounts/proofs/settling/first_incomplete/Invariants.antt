use Rattle.accounts.proofs.Incomplete.{NoneBefore}
use Rattle.accounts.proofs.settling.first_incomplete.Given as goal

abbrev pub invariant-loop-account : goal.invariant-loop-account
invariant-loop-account l = NoneBefore l.n l.accounts l.account-index
