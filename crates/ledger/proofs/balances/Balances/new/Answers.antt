use Rattle.std.proofs.Common.{arith}
use Rattle.ledger.proofs.Replicas.{none_held, each_capped}
use Rattle.ledger.proofs.balances.Balances.new.Goals as goal

pub invariant_of-result : goal.invariant_of-result
invariant_of-result c = record { capped = each_capped _ (omega arith) }

pub returns-clause-holds : goal.returns-clause-holds
returns-clause-holds c = none_held
