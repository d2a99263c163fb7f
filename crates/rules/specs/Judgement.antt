-- How each call is judged: the stage, then the ranges of its fields, then the rest in order. The first check that fails refuses.
use Rattle.std.specs.Prelude.{ℕ, zero, suc, ◌+◌, ◌-◌, Bool, cond, not, ◌||◌, List, [], ◌∷◌, length, is_some, Some, None, Ok, Err, sum_by, Option, Result, ◌==◌, nat_le, nat_lt}
use Rattle.ledger.specs.declared.fault.LedgerFault.{LedgerFault}
use Rattle.ledger.specs.declared.fault.LedgerFault.TheVariants.{PastLimit}
use Rattle.ledger.specs.Rules.{limit, known, crediting, debiting}
use Rattle.curves.specs.Ranges.{within}
use Rattle.curves.specs.declared.levels.Supply.{Supply}
use Rattle.curves.specs.Levels.{guarantees, method_at, supply_fine}
use Rattle.curves.specs.declared.obligations.Sort.{Sort}
use Rattle.curves.specs.declared.obligations.Sort.TheVariants.{Profiled, Losses}
use Rattle.curves.specs.Obligations.{sort_at, readings_fine}
use Rattle.settlement.specs.Rules.{highest_price}
use Rattle.rules.specs.declared.records.Account.{Account}
use Rattle.rules.specs.declared.records.Entity.{Entity}
use Rattle.rules.specs.declared.records.Offer.{Offer}
use Rattle.rules.specs.declared.calls.Stage.{Stage}
use Rattle.rules.specs.declared.calls.Call.{Call}
use Rattle.rules.specs.declared.calls.Call.TheVariants.{Begin, Open, Certify, Rebalance, Offer as MakeOffer, Accept, Recall, Load, Close, Settle, Report}
use Rattle.rules.specs.declared.calls.Reply.{Reply}
use Rattle.rules.specs.declared.calls.Reply.TheVariants.{Done, Level, Holding, Returned, Figures, Stated}
use Rattle.rules.specs.declared.faults.RegistryFault.{RegistryFault}
use Rattle.rules.specs.declared.faults.RegistryFault.TheVariants.{WrongStage, OutOfRange, NotOpen, InUse, Unknown, RegisterFull, WrongParty, OutOfTurn, Incomplete, PostsShort, NotEmpty, Ledger}
use Rattle.rules.specs.Records.{offered_amount}
use Rattle.rules.specs.Year.{Year, account_in, entity_in, offer_in, is_open, is_blank, is_trading, is_closed, is_settled}
use Rattle.rules.specs.Settling.{first_incomplete, gaps_of, settlement_of, statement_of}

abbrev pub Answer : Type 0
Answer = Result Reply RegistryFault

-- A check, and the refusal where it fails.
abbrev pub Check : Type 0
Check = Bool × RegistryFault

infix 70 ◌else◌
abbrev pub ◌else◌ : Bool → RegistryFault → Check
◌else◌ fine fault = (fine, fault)

abbrev pub walk : List Check → Answer → Answer
walk [] answer = answer
walk (check ∷ checks) answer = cond check.0 (walk checks answer) (Err check.1)

-- The fields in their order, the first counted as `place`.
abbrev pub in_range : {A : Type 0} → ℕ → List Bool → Result A RegistryFault → Result A RegistryFault
in_range place [] rest = rest
in_range place (fine ∷ fields) rest = cond fine (in_range (place + 1) fields rest) (Err (OutOfRange place))

-- The stage that a call needs.
abbrev pub needs : Call → Stage → Bool
needs (Begin _ _) s = is_blank s
needs (Open _) s = is_trading s
needs (Certify _ _ _ _) s = is_trading s
needs (Rebalance _ _) s = is_trading s
needs (MakeOffer _ _ _ _) s = is_trading s
needs (Accept _ _) s = is_trading s
needs (Recall _ _) s = is_trading s
needs (Load _ _ _) s = is_trading s || is_closed s
needs Close s = is_trading s
needs (Settle _ _) s = is_closed s
needs (Report _) s = is_settled s

-- numbers of entities and of offers
abbrev pub number_fine : ℕ → Bool
number_fine i = within 1 65535 i

abbrev pub price_fine : ℕ → Bool
price_fine p = nat_le p highest_price

-- Whether each field of a call is in its range.
abbrev pub fields : Year → Call → List Bool
fields y (Begin n security) = within 1 400 n ∷ nat_le security 2000 ∷ []
fields y (Open a) = known a ∷ []
fields y (Certify i a m supply) = number_fine i ∷ known a ∷ within 1 4 m ∷ supply_fine supply
fields y (Rebalance i supply) = number_fine i ∷ supply_fine supply
fields y (MakeOffer i s b x) = number_fine i ∷ known s ∷ known b ∷ within 1 limit x ∷ []
fields y (Accept i a) = number_fine i ∷ known a ∷ []
fields y (Recall i a) = number_fine i ∷ known a ∷ []
fields y (Load a t s) = known a ∷ within 1 2 s.sort ∷ within 1 y.n t ∷ readings_fine (sort_at s.sort) s
fields y Close = []
fields y (Settle u v) = price_fine u ∷ price_fine v ∷ []
fields y (Report a) = known a ∷ []

-- A refusal of the ledger comes up whole.
abbrev pub passed_on : (ℕ → Reply) → Result ℕ LedgerFault → Answer
passed_on reply (Ok held) = Ok (reply held)
passed_on reply (Err fault) = Err (Ledger fault)

-- Refused at the account that was found, if one was.
abbrev pub unless : Option ℕ → (ℕ → RegistryFault) → Answer → Answer
unless None fault answer = answer
unless (Some a) fault answer = Err (fault a)

-- The lowest of the n accounts from a on that holds something.
unfoldable pub lowest_holder : (ℕ → ℕ) → ℕ → ℕ → Option ℕ
lowest_holder f zero a = None
lowest_holder f (suc n) a = cond (f a == 0) (lowest_holder f n (a + 1)) (Some a)

-- A level posted against the one before it: the raise is credited, the cut is debited, no difference posts nothing.
abbrev pub levelling : (ℕ → ℕ) → ℕ → ℕ → ℕ → ℕ → Answer
levelling f m a old new =
    cond (new == old) (Ok (Level new))
    (passed_on (λ _. Level new) (cond (nat_lt old new) (crediting f m a (new - old)) (debiting f m a (old - new))))

abbrev pub rebalancing : (ℕ → ℕ) → ℕ → Option Entity → Supply → Answer
rebalancing f m None supply = Err (Unknown 1)
rebalancing f m (Some e) supply = levelling f m e.account e.level (guarantees e.method supply)

-- An offer ended by the party that it names.
abbrev pub ending : (ℕ → ℕ) → ℕ → (Offer → ℕ) → Option Offer → ℕ → Answer
ending f m party None a = Err (Unknown 1)
ending f m party (Some o) a = walk ((a == party o) else WrongParty 2 ∷ []) (passed_on Holding (crediting f m a o.amount))

abbrev pub steps_loaded : Sort → Account → ℕ
steps_loaded Profiled a = a.profiled.loaded
steps_loaded Losses a = a.losses.loaded

abbrev pub loading : Option Account → Sort → ℕ → Answer
loading None sort t = Err (NotOpen 1)
loading (Some a) sort t = walk ((t == steps_loaded sort a + 1) else OutOfTurn 3 ∷ []) (Ok Done)

-- The seller of the first of the offers for which the ledger might have no room.
-- The law shows that there is none: a credit within the book never passes the ledger's limit.
abbrev pub first_without_room : (ℕ → ℕ) → ℕ → List Offer → Option ℕ
first_without_room f all [] = None
first_without_room f all (o ∷ os) = cond (nat_le (f o.seller + all) limit) (first_without_room f all os) (Some o.seller)

abbrev pub reporting : Year → (ℕ → ℕ) → Option Account → Answer
reporting y f None = Err (NotOpen 1)
reporting y f (Some a) = Ok (Stated (statement_of y.n y.security y.shortage y.surplus f y.accounts a))

-- The checks after the ranges, and the answer; f are the holdings, m the posts left.
abbrev pub ruling : Year → (ℕ → ℕ) → ℕ → Call → Answer
ruling y f m (Begin n security) = unless (lowest_holder f 64 1) NotEmpty (Ok Done)
ruling y f m (Open a) = walk (not (is_open y a) else InUse 1 ∷ []) (Ok Done)
ruling y f m (Certify i a method supply) =
    walk (is_open y a else NotOpen 2
    ∷ not (is_some (entity_in y i)) else InUse 1
    ∷ nat_lt (length y.entities) 64 else RegisterFull ∷ [])
    (levelling f m a 0 (guarantees (method_at method) supply))
ruling y f m (Rebalance i supply) = rebalancing f m (entity_in y i) supply
ruling y f m (MakeOffer i s b x) =
    walk (is_open y s else NotOpen 2
    ∷ is_open y b else NotOpen 3
    ∷ not (s == b) else WrongParty 3
    ∷ not (is_some (offer_in y i)) else InUse 1
    ∷ nat_lt (length y.offers) 32 else RegisterFull ∷ [])
    (passed_on Holding (debiting f m s x))
ruling y f m (Accept i a) = ending f m (λ o. o.buyer) (offer_in y i) a
ruling y f m (Recall i a) = ending f m (λ o. o.seller) (offer_in y i) a
ruling y f m (Load a t s) = loading (account_in y a) (sort_at s.sort) t
ruling y f m Close =
    walk (nat_le (length y.offers) m else PostsShort ∷ [])
    (unless (first_without_room f (sum_by offered_amount y.offers) y.offers) (λ a. Ledger (PastLimit a))
    (Ok (Returned (length y.offers))))
ruling y f m (Settle u v) = unless (first_incomplete y.n y.accounts) Incomplete (Ok (Figures (settlement_of u v (gaps_of y.n y.security f y.accounts))))
ruling y f m (Report a) = reporting y f (account_in y a)

-- Every call checks the stage first and its fields second.
abbrev pub judge : Year → (ℕ → ℕ) → ℕ → Call → Answer
judge y f m c = cond (needs c y.stage) (in_range 1 (fields y c) (ruling y f m c)) (Err WrongStage)
