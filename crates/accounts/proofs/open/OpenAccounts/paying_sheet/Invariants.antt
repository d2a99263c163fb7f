use Rattle.std.proofs.Common.{take}
use Rattle.settlement.specs.Sheets.{Holds}
use Rattle.rules.specs.Settling.{gaps_of}
use Rattle.accounts.proofs.open.OpenAccounts.paying_sheet.Given as goal

abbrev pub invariant-loop-account : goal.invariant-loop-account
invariant-loop-account g l =
    Holds l.sheet l.fn.prices.shortage l.fn.prices.surplus (gaps_of l.self.terms.n l.self.terms.security (g.L.Ledger.holding l.ledger) (take l.account-index l.self.accounts.now))
