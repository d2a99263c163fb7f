-- What a book's phase says of its year.
use Rattle.std.specs.Prelude.{ℕ}
use Rattle.rules.specs.declared.records.Offer.{Offer}
use Rattle.rules.specs.declared.calls.Call.{Call}
use Rattle.rules.specs.declared.calls.Call.TheVariants.{Accept, Recall}
use Rattle.rules.specs.declared.calls.Stage.{Stage}
use Rattle.rules.specs.declared.calls.Stage.TheVariants.{Blank, Trading, Closed, Settled}
use Rattle.registry.specs.declared.phase.Phase.{Phase}
use Rattle.registry.specs.declared.phase.Phase.TheVariants.{Blank as IsBlank, Trading as IsTrading, Closed as IsClosed, Settled as IsSettled}
use Rattle.registry.specs.declared.phase.Party.{Party}
use Rattle.registry.specs.declared.phase.Party.TheVariants.{Buyer, Seller}

abbrev pub stage_of : Phase → Stage
stage_of IsBlank = Blank
stage_of (IsTrading terms) = Trading
stage_of (IsClosed terms) = Closed
stage_of (IsSettled terms prices) = Settled

-- The half-hours and the security coefficient that begin set, else 0.
abbrev pub half_hours_of : Phase → ℕ
half_hours_of IsBlank = 0
half_hours_of (IsTrading terms) = terms.n
half_hours_of (IsClosed terms) = terms.n
half_hours_of (IsSettled terms prices) = terms.n

abbrev pub security_of : Phase → ℕ
security_of IsBlank = 0
security_of (IsTrading terms) = terms.security
security_of (IsClosed terms) = terms.security
security_of (IsSettled terms prices) = terms.security

-- The prices that settle set, else 0.
abbrev pub shortage_of : Phase → ℕ
shortage_of IsBlank = 0
shortage_of (IsTrading terms) = 0
shortage_of (IsClosed terms) = 0
shortage_of (IsSettled terms prices) = prices.shortage

abbrev pub surplus_of : Phase → ℕ
surplus_of IsBlank = 0
surplus_of (IsTrading terms) = 0
surplus_of (IsClosed terms) = 0
surplus_of (IsSettled terms prices) = prices.surplus

-- The account that a party's call names, and that call.
abbrev pub party_of : Party → Offer → ℕ
party_of Buyer o = o.buyer
party_of Seller o = o.seller

abbrev pub ending_call : Party → ℕ → ℕ → Call
ending_call Buyer i a = Accept i a
ending_call Seller i a = Recall i a
