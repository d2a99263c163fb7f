-- What an accepted call did, as one fact, and what the fact changes: the year, the holdings, the posts left.
use Rattle.std.specs.Prelude.{ℕ, ◌+◌, ◌-◌, cond, List, [], length, ℤ, pos, ◌+ℤ◌, Some, None, sum_by, Option, ◌==◌}
use Rattle.registers.specs.Rows.{inserted, without, replaced}
use Rattle.curves.specs.declared.obligations.Step.{Step}
use Rattle.curves.specs.declared.obligations.Sort.{Sort}
use Rattle.curves.specs.declared.obligations.Sort.TheVariants.{Profiled, Losses}
use Rattle.curves.specs.declared.levels.Supply.{Supply}
use Rattle.curves.specs.Levels.{guarantees, method_at}
use Rattle.curves.specs.Obligations.{sort_at, step_adds}
use Rattle.rules.specs.declared.records.Series.{Series}
use Rattle.rules.specs.declared.records.Account.{Account}
use Rattle.rules.specs.declared.records.Entity.{Entity}
use Rattle.rules.specs.declared.records.Offer.{Offer}
use Rattle.rules.specs.declared.calls.Stage.{Stage}
use Rattle.rules.specs.declared.calls.Stage.TheVariants.{Trading, Closed, Settled}
use Rattle.rules.specs.declared.calls.Call.{Call}
use Rattle.rules.specs.declared.calls.Call.TheVariants.{Begin, Open, Certify, Rebalance, Offer as MakeOffer, Accept, Recall, Load, Close, Settle, Report}
use Rattle.rules.specs.Records.{account_number, entity_number, offer_number}
use Rattle.rules.specs.Year.{Year, account_in, entity_in, offer_in}

-- One fact for each accepted call. `relevelled` has the entity as it was and its new level;
-- `ended` has the offer as it stood and the account that its guarantees went to; `closed` has the offers it returned.
pub data Fact : Type 0 where
  began : ℕ → ℕ → Fact
  opened : ℕ → Fact
  certified : Entity → Fact
  relevelled : Entity → ℕ → Fact
  offered : Offer → Fact
  ended : Offer → ℕ → Fact
  loaded : ℕ → Step → Fact
  closed : List Offer → Fact
  settled : ℕ → ℕ → Fact
  nothing : Fact

-- a rebalance works the level out again by its entity's method
abbrev pub rebalanced : Option Entity → Supply → Fact
rebalanced None supply = nothing
rebalanced (Some e) supply = relevelled e (guarantees e.method supply)

abbrev pub ended_for : (Offer → ℕ) → Option Offer → Fact
ended_for party None = nothing
ended_for party (Some o) = ended o (party o)

-- What a call does when it is accepted in the year y.
abbrev pub did : Year → Call → Fact
did y (Begin n security) = began n security
did y (Open a) = opened a
did y (Certify i a m supply) =
    certified (record { number = i; account = a; method = method_at m; level = guarantees (method_at m) supply })
did y (Rebalance i supply) = rebalanced (entity_in y i) supply
did y (MakeOffer i s b x) = offered (record { number = i; seller = s; buyer = b; amount = x })
did y (Accept i a) = ended_for (λ o. o.buyer) (offer_in y i)
did y (Recall i a) = ended_for (λ o. o.seller) (offer_in y i)
did y (Load a t s) = loaded a s
did y Close = closed y.offers
did y (Settle u v) = settled u v
did y (Report a) = nothing

-- A new account has no steps; a step more counts one and adds what its sort's formula gives.
abbrev pub no_steps : Series
no_steps = record { loaded = 0; sum = pos 0 }

abbrev pub new_account : ℕ → Account
new_account a = record { number = a; profiled = no_steps; losses = no_steps }

abbrev pub longer : Series → ℤ → Series
longer s v = record { loaded = s.loaded + 1; sum = s.sum +ℤ v }

abbrev pub grown_by : Sort → ℤ → Account → Account
grown_by Profiled v a = record { number = a.number; profiled = longer a.profiled v; losses = a.losses }
grown_by Losses v a = record { number = a.number; profiled = a.profiled; losses = longer a.losses v }

abbrev pub grown : Account → Step → Account
grown a s = grown_by (sort_at s.sort) (step_adds s) a

abbrev pub grown_in : Option Account → Step → List Account → List Account
grown_in None s accounts = accounts
grown_in (Some a) s accounts = replaced account_number (grown a s) accounts

abbrev pub at_level : ℕ → Entity → Entity
at_level l e = record { number = e.number; account = e.account; method = e.method; level = l }

abbrev pub with_accounts : List Account → Year → Year
with_accounts xs y = record { stage = y.stage; n = y.n; security = y.security; shortage = y.shortage; surplus = y.surplus; accounts = xs; entities = y.entities; offers = y.offers }

abbrev pub with_entities : List Entity → Year → Year
with_entities es y = record { stage = y.stage; n = y.n; security = y.security; shortage = y.shortage; surplus = y.surplus; accounts = y.accounts; entities = es; offers = y.offers }

abbrev pub with_offers : Stage → List Offer → Year → Year
with_offers s os y = record { stage = s; n = y.n; security = y.security; shortage = y.shortage; surplus = y.surplus; accounts = y.accounts; entities = y.entities; offers = os }

-- The year after a fact.
abbrev pub after : Fact → Year → Year
after (began n security) y = record { stage = Trading; n = n; security = security; shortage = y.shortage; surplus = y.surplus; accounts = y.accounts; entities = y.entities; offers = y.offers }
after (opened a) y = with_accounts (inserted account_number (new_account a) y.accounts) y
after (certified e) y = with_entities (inserted entity_number e y.entities) y
after (relevelled e l) y = with_entities (replaced entity_number (at_level l e) y.entities) y
after (offered o) y = with_offers y.stage (inserted offer_number o y.offers) y
after (ended o a) y = with_offers y.stage (without offer_number o.number y.offers) y
after (loaded a s) y = with_accounts (grown_in (account_in y a) s y.accounts) y
after (closed os) y = with_offers Closed [] y
after (settled u v) y = record { stage = Settled; n = y.n; security = y.security; shortage = u; surplus = v; accounts = y.accounts; entities = y.entities; offers = y.offers }
after nothing y = y

-- v at the account a, nothing elsewhere
abbrev pub to : ℕ → ℕ → ℕ → ℕ
to a v k = cond (k == a) v 0

-- what the account k has back when each offer returns to its seller
abbrev pub returned_to : ℕ → List Offer → ℕ
returned_to k os = sum_by (λ o. to o.seller o.amount k) os

-- The holding of the account k after a fact, where f were the holdings before.
abbrev pub moved : Fact → (ℕ → ℕ) → ℕ → ℕ
moved (began n security) f k = f k
moved (opened a) f k = f k
moved (certified e) f k = f k + to e.account e.level k
moved (relevelled e l) f k = (f k + to e.account (l - e.level) k) - to e.account (e.level - l) k
moved (offered o) f k = f k - to o.seller o.amount k
moved (ended o a) f k = f k + to a o.amount k
moved (loaded a s) f k = f k
moved (closed os) f k = f k + returned_to k os
moved (settled u v) f k = f k
moved nothing f k = f k

-- The posts that a fact takes: none where nothing moves.
abbrev pub posts_of : Fact → ℕ
posts_of (began n security) = 0
posts_of (opened a) = 0
posts_of (certified e) = cond (e.level == 0) 0 1
posts_of (relevelled e l) = cond (l == e.level) 0 1
posts_of (offered o) = 1
posts_of (ended o a) = 1
posts_of (loaded a s) = 0
posts_of (closed os) = length os
posts_of (settled u v) = 0
posts_of nothing = 0
