-- The law: no guarantee is ever booked twice, lost or invented. First the words of a history of calls and answers, then the law in these words.
use Rattle.std.specs.Prelude.{◌≡◌, ℕ, zero, suc, ◌+◌, ◌-◌, ◌<◌, ◌≤◌, Bool, true, false, cond, ◌||◌, ◌⊎◌, List, [], ◌∷◌, ◌++◌, map, length, ℤ, pos, ◌+ℤ◌, ◌-ℤ◌, Ok, Err, sum_by, filter, ◌==◌, ◌≢◌}
use Rattle.curves.specs.declared.obligations.Step.{Step}
use Rattle.curves.specs.declared.obligations.Sort.{Sort}
use Rattle.curves.specs.declared.obligations.Sort.TheVariants.{Profiled, Losses}
use Rattle.curves.specs.Obligations.{sort_at, sum_of_steps, obligation_in_guarantees}
use Rattle.rules.specs.declared.records.Entity.{Entity}
use Rattle.rules.specs.declared.records.Offer.{Offer}
use Rattle.rules.specs.declared.calls.Call.{Call}
use Rattle.rules.specs.Records.{offered_amount, account_number, entity_number, offer_number}
use Rattle.rules.specs.Year.{Year, blank_year, is_blank, is_closed, is_settled}
use Rattle.rules.specs.Facts.{Fact, began, opened, certified, relevelled, offered, ended, loaded, closed, settled, nothing, did, after, moved, posts_of, to, at_level}
use Rattle.rules.specs.Judgement.{Answer, judge}
use Rattle.registers.specs.Rows.{Rising}
use Rattle.registers.specs.Laws.{Member}
use Rattle.ledger.specs.declared.fault.LedgerFault.{LedgerFault}
use Rattle.ledger.specs.declared.fault.LedgerFault.TheVariants.{NoSuchAccount, NoAmount, NoPostsLeft, BeyondHolding, PastLimit}
use Rattle.curves.specs.Levels.{guarantees}
use Rattle.settlement.specs.Rules.{collected, pays_out, paid_price_of, amount}
use Rattle.rules.specs.declared.records.Account.{Account}
use Rattle.rules.specs.declared.calls.Call.TheVariants.{Begin, Open, Certify, Rebalance, Offer as MakeOffer, Accept, Recall, Load, Close, Settle, Report}
use Rattle.rules.specs.declared.calls.Reply.{Reply}
use Rattle.rules.specs.declared.calls.Reply.TheVariants.{Figures, Stated}
use Rattle.rules.specs.declared.faults.RegistryFault.{RegistryFault}
use Rattle.rules.specs.declared.faults.RegistryFault.TheVariants.{WrongStage, OutOfRange, NotOpen, InUse, Unknown, RegisterFull, WrongParty, OutOfTurn, Incomplete, PostsShort, NotEmpty, Ledger}
use Rattle.rules.specs.Settling.{settlement_of}

-- The words: what was called, what was answered, and what that did.

-- A call, with the posts left that the ledger showed before it, and its answer.
pub record Event : Type 0 where
  pub shown : ℕ
  pub call : Call
  pub answer : Answer

-- A history, the latest event first.
abbrev pub Past : Type 0
Past = List Event

-- The year that facts have made, from a new book, and the holdings, from those at the start. The latest fact stands first.
abbrev pub year : List Fact → Year
year [] = blank_year
year (f ∷ fs) = after f (year fs)

abbrev pub holds : (ℕ → ℕ) → List Fact → ℕ → ℕ
holds start [] k = start k
holds start (f ∷ fs) k = moved f (holds start fs) k

-- The facts of a history: one for each accepted call, none for a refused one.
abbrev pub also : Answer → Fact → List Fact → List Fact
also (Ok _) f fs = f ∷ fs
also (Err _) f fs = fs

abbrev pub facts : Past → List Fact
facts [] = []
facts (e ∷ p) = also e.answer (did (year (facts p)) e.call) (facts p)

-- The posts that an answered call took.
abbrev pub posts_taken : Answer → Fact → ℕ
posts_taken (Ok _) f = posts_of f
posts_taken (Err _) f = 0

-- The posts left m that a ledger shows after a history: 65,535 at most, and after each post the same or one lower.
abbrev pub Shows : ℕ → Past → Type 0
Shows m [] = m ≤ 65535
Shows m (e ∷ p) = (m ≤ e.shown) × (e.shown ≤ m + posts_taken e.answer (did (year (facts p)) e.call))

-- Every answer is the judgement over the calls accepted before it, and the posts shown are a ledger's.
abbrev pub Judged : (ℕ → ℕ) → Past → Type 0
Judged start [] = Unit {0}
Judged start (e ∷ p) =
    (e.answer ≡ judge (year (facts p)) (holds start (facts p)) e.shown e.call) × Shows e.shown p × Judged start p

-- Every movement of guarantees has a reason, an account and an amount.
pub data Reason : Type 0 where
  certification : Reason
  raise : Reason
  cut : Reason
  offering : Reason
  ending : Reason

pub record Entry : Type 0 where
  pub reason : Reason
  pub account : ℕ
  pub amount : ℕ

abbrev pub entry : Reason → ℕ → ℕ → Entry
entry r a x = record { reason = r; account = a; amount = x }

-- The movements of a fact. A new level is a raise or a cut against the entity's last level;
-- an offer leaves the seller, and ends with the account that its guarantees go to.
abbrev pub entries : Fact → List Entry
entries (began n security) = []
entries (opened a) = []
entries (certified e) = entry certification e.account e.level ∷ []
entries (relevelled e l) = entry raise e.account (l - e.level) ∷ entry cut e.account (e.level - l) ∷ []
entries (offered o) = entry offering o.seller o.amount ∷ []
entries (ended o a) = entry ending a o.amount ∷ []
entries (loaded a s) = []
entries (closed os) = map (λ o. entry ending o.seller o.amount) os
entries (settled u v) = []
entries nothing = []

abbrev pub same_reason : Reason → Reason → Bool
same_reason certification certification = true
same_reason certification raise = false
same_reason certification cut = false
same_reason certification offering = false
same_reason certification ending = false
same_reason raise certification = false
same_reason raise raise = true
same_reason raise cut = false
same_reason raise offering = false
same_reason raise ending = false
same_reason cut certification = false
same_reason cut raise = false
same_reason cut cut = true
same_reason cut offering = false
same_reason cut ending = false
same_reason offering certification = false
same_reason offering raise = false
same_reason offering cut = false
same_reason offering offering = true
same_reason offering ending = false
same_reason ending certification = false
same_reason ending raise = false
same_reason ending cut = false
same_reason ending offering = false
same_reason ending ending = true

-- All that moved for a reason, and what moved for it on the account k.
abbrev pub all : Reason → List Fact → ℕ
all r fs = sum_by (λ f. sum_by (λ e. cond (same_reason r e.reason) e.amount 0) (entries f)) fs

abbrev pub on : ℕ → Reason → List Fact → ℕ
on k r fs = sum_by (λ f. sum_by (λ e. cond (same_reason r e.reason) (to e.account e.amount k) 0) (entries f)) fs

-- The guarantees under standing offers.
abbrev pub under_offers : List Fact → ℕ
under_offers fs = sum_by offered_amount (year fs).offers

-- g 1 + .. + g n
unfoldable pub total : (ℕ → ℕ) → ℕ → ℕ
total g zero = 0
total g (suc n) = total g n + g (suc n)

-- An account that an accepted call opened.
abbrev pub Opened : ℕ → List Fact → Type 0
Opened k [] = ⊥
Opened k (began n security ∷ fs) = Opened k fs
Opened k (opened a ∷ fs) = (k ≡ a) ⊎ Opened k fs
Opened k (certified e ∷ fs) = Opened k fs
Opened k (relevelled e l ∷ fs) = Opened k fs
Opened k (offered o ∷ fs) = Opened k fs
Opened k (ended o a ∷ fs) = Opened k fs
Opened k (loaded a s ∷ fs) = Opened k fs
Opened k (closed os ∷ fs) = Opened k fs
Opened k (settled u v ∷ fs) = Opened k fs
Opened k (nothing ∷ fs) = Opened k fs

-- An entity at its last level: that of its certification, or of its last rebalancing since.
abbrev pub Levelled : Entity → List Fact → Type 0
Levelled x [] = ⊥
Levelled x (began n security ∷ fs) = Levelled x fs
Levelled x (opened a ∷ fs) = Levelled x fs
Levelled x (certified e ∷ fs) = (x ≡ e) ⊎ Levelled x fs
Levelled x (relevelled e l ∷ fs) = (x ≡ at_level l e) ⊎ ((x.number ≢ e.number) × Levelled x fs)
Levelled x (offered o ∷ fs) = Levelled x fs
Levelled x (ended o a ∷ fs) = Levelled x fs
Levelled x (loaded a s ∷ fs) = Levelled x fs
Levelled x (closed os ∷ fs) = Levelled x fs
Levelled x (settled u v ∷ fs) = Levelled x fs
Levelled x (nothing ∷ fs) = Levelled x fs

-- An offer that was accepted, and that no ending of its number and no close has ended since.
abbrev pub Stands : Offer → List Fact → Type 0
Stands x [] = ⊥
Stands x (began n security ∷ fs) = Stands x fs
Stands x (opened a ∷ fs) = Stands x fs
Stands x (certified e ∷ fs) = Stands x fs
Stands x (relevelled e l ∷ fs) = Stands x fs
Stands x (offered o ∷ fs) = (x ≡ o) ⊎ Stands x fs
Stands x (ended o a ∷ fs) = (x.number ≢ o.number) × Stands x fs
Stands x (loaded a s ∷ fs) = Stands x fs
Stands x (closed os ∷ fs) = ⊥
Stands x (settled u v ∷ fs) = Stands x fs
Stands x (nothing ∷ fs) = Stands x fs

-- The steps loaded for the account k, of both sorts.
abbrev pub steps_of : ℕ → Fact → List Step
steps_of k (began n security) = []
steps_of k (opened a) = []
steps_of k (certified e) = []
steps_of k (relevelled e l) = []
steps_of k (offered o) = []
steps_of k (ended o a) = []
steps_of k (loaded a s) = cond (k == a) (s ∷ []) []
steps_of k (closed os) = []
steps_of k (settled u v) = []
steps_of k nothing = []

abbrev pub loads : ℕ → List Fact → List Step
loads k [] = []
loads k (f ∷ fs) = steps_of k f ++ loads k fs

-- The steps of a sort, and those loaded for the account k in the series of a sort.
abbrev pub same_sort : Sort → Sort → Bool
same_sort Profiled Profiled = true
same_sort Profiled Losses = false
same_sort Losses Profiled = false
same_sort Losses Losses = true

abbrev pub of_sort : Sort → List Step → List Step
of_sort z steps = filter (λ s. same_sort z (sort_at s.sort)) steps

abbrev pub loads_of_sort : Sort → ℕ → List Fact → List Step
loads_of_sort z k fs = of_sort z (loads k fs)

-- The obligation of the account k, from its accepted loads (5.2.1.2).
unfoldable pub obligation : ℕ → List Fact → ℕ
obligation k fs = obligation_in_guarantees (year fs).n (year fs).security (sum_of_steps (loads k fs))

-- The gaps of the open accounts: holding less obligation (5.6.1.1).
abbrev pub gap : (ℕ → ℕ) → List Fact → ℕ → ℤ
gap start fs k = pos (holds start fs k) -ℤ pos (obligation k fs)

abbrev pub open_accounts : List Fact → List ℕ
open_accounts fs = map (λ a. a.number) (year fs).accounts

abbrev pub gaps : (ℕ → ℕ) → List Fact → List ℤ
gaps start fs = map (gap start fs) (open_accounts fs)

-- The law. It speaks of every history whose answers are the judgements.

-- From the accepted begin on.
abbrev pub Begun : List Fact → Type 0
Begun fs = is_blank (year fs).stage ≡ false

abbrev pub AfterClose : List Fact → Type 0
AfterClose fs = (is_closed (year fs).stage || is_settled (year fs).stage) ≡ true

-- All guarantees on the 64 accounts and under standing offers are those certified, with the raises, less the cuts.
abbrev pub Conserved : (ℕ → ℕ) → List Fact → Type 0
Conserved start fs = total (holds start fs) 64 + under_offers fs + all cut fs ≡ all certification fs + all raise fs

-- The account k holds its own entities' part of that sum, less its offers, with what ended offers gave it.
abbrev pub OwnPart : (ℕ → ℕ) → List Fact → ℕ → Type 0
OwnPart start fs k = holds start fs k + on k offering fs + on k cut fs ≡ on k certification fs + on k raise fs + on k ending fs

abbrev pub sum_of : List ℤ → ℤ
sum_of [] = pos 0
sum_of (g ∷ gs) = g +ℤ sum_of gs

-- A settlement at the prices u and v, answered w.
pub record Settling (start : ℕ → ℕ) (fs : List Fact) (u v : ℕ) (w : Reply) : Type 0 where
  -- the gaps of the open accounts are all guarantees less the obligations of the open accounts
  pub gaps_add_up : sum_of (gaps start fs) +ℤ pos (sum_by (λ k. obligation k fs) (open_accounts fs)) +ℤ pos (all cut fs) ≡ pos (all certification fs + all raise fs)
  -- every series is empty, or has a step for each half-hour of the year
  pub whole : (k : ℕ) (z : Sort) → (length (loads_of_sort z k fs) ≡ 0) ⊎ (length (loads_of_sort z k fs) ≡ (year fs).n)
  -- the answers are the figures for these gaps
  pub figures : w ≡ Figures (settlement_of u v (gaps start fs))
  -- the paid price keeps to the quote, pays out no more than was collected, and no higher price would
  pub within_quote : paid_price_of u v (gaps start fs) ≤ v
  pub covered : pays_out (gaps start fs) (paid_price_of u v (gaps start fs)) ≤ collected u (gaps start fs)
  pub highest : (higher : ℕ) → paid_price_of u v (gaps start fs) < higher → higher ≤ v → collected u (gaps start fs) < pays_out (gaps start fs) higher

-- What an account is told after settling.
abbrev pub Reported : (ℕ → ℕ) → List Fact → ℕ → Reply → Type 0
Reported start fs a w =
    w ≡ Stated (record {
      holding = holds start fs a;
      obligation = obligation a fs;
      gap = gap start fs a;
      amount = amount (year fs).shortage (paid_price_of (year fs).shortage (year fs).surplus (gaps start fs)) (gap start fs a);
    })

-- What an accepted call says of the facts before it: a rebalance is of an entity at its last level;
-- accept and recall end a standing offer, by its buyer and by its seller, and its guarantees go to the one who called.
abbrev pub AcceptedSo : (ℕ → ℕ) → List Fact → Call → Reply → Type 0
AcceptedSo start fs (Begin n security) w = Unit {0}
AcceptedSo start fs (Open a) w = Unit {0}
AcceptedSo start fs (Certify i a m supply) w = Unit {0}
AcceptedSo start fs (Rebalance i supply) w =
    (e : Entity) × Levelled e fs × (e.number ≡ i) × (did (year fs) (Rebalance i supply) ≡ relevelled e (guarantees e.method supply))
AcceptedSo start fs (MakeOffer i s b x) w = Unit {0}
AcceptedSo start fs (Accept i a) w = (o : Offer) × Stands o fs × (o.number ≡ i) × (o.buyer ≡ a) × (did (year fs) (Accept i a) ≡ ended o a)
AcceptedSo start fs (Recall i a) w = (o : Offer) × Stands o fs × (o.number ≡ i) × (o.seller ≡ a) × (did (year fs) (Recall i a) ≡ ended o a)
AcceptedSo start fs (Load a t s) w = Unit {0}
AcceptedSo start fs Close w = Unit {0}
AcceptedSo start fs (Settle u v) w = Settling start fs u v w
AcceptedSo start fs (Report a) w = Reported start fs a w

-- The ledger refuses for want of posts or of guarantees, and for nothing else: no credit ever passes its limit.
abbrev pub LedgerRefusal : LedgerFault → Type 0
LedgerRefusal (NoSuchAccount a) = ⊥
LedgerRefusal (NoAmount a) = ⊥
LedgerRefusal (NoPostsLeft a) = Unit {0}
LedgerRefusal (BeyondHolding a) = Unit {0}
LedgerRefusal (PastLimit a) = ⊥

abbrev pub RefusedSo : RegistryFault → Type 0
RefusedSo WrongStage = Unit {0}
RefusedSo (OutOfRange field) = Unit {0}
RefusedSo (NotOpen field) = Unit {0}
RefusedSo (InUse field) = Unit {0}
RefusedSo (Unknown field) = Unit {0}
RefusedSo RegisterFull = Unit {0}
RefusedSo (WrongParty field) = Unit {0}
RefusedSo (OutOfTurn field) = Unit {0}
RefusedSo (Incomplete account) = Unit {0}
RefusedSo PostsShort = Unit {0}
RefusedSo (NotEmpty account) = Unit {0}
RefusedSo (Ledger fault) = LedgerRefusal fault

abbrev pub AnsweredSo : (ℕ → ℕ) → List Fact → Call → Answer → Type 0
AnsweredSo start fs c (Ok w) = AcceptedSo start fs c w
AnsweredSo start fs c (Err fault) = RefusedSo fault

abbrev pub Latest : (ℕ → ℕ) → Past → Type 0
Latest start [] = Unit {0}
Latest start (e ∷ p) = AnsweredSo start (facts p) e.call e.answer

-- The registers hold exactly what the facts say: the accounts opened, the entities at their last level, the standing offers.
pub record RegistersTell (fs : List Fact) : Type 0 where
  pub accounts_rise : Rising account_number (year fs).accounts
  pub entities_rise : Rising entity_number (year fs).entities
  pub offers_rise : Rising offer_number (year fs).offers
  pub opened_listed : (a : Account) → Member a (year fs).accounts → Opened a.number fs
  pub listed_opened : (k : ℕ) → Opened k fs → (a : Account) × Member a (year fs).accounts × (a.number ≡ k)
  pub levelled_listed : (e : Entity) → Levelled e fs → Member e (year fs).entities
  pub listed_levelled : (e : Entity) → Member e (year fs).entities → Levelled e fs
  pub stands_listed : (o : Offer) → Stands o fs → Member o (year fs).offers
  pub listed_stands : (o : Offer) → Member o (year fs).offers → Stands o fs

-- The law at a history.
pub record Law (start : ℕ → ℕ) (p : Past) : Type 0 where
  pub conserved : Begun (facts p) → Conserved start (facts p)
  pub own_parts : Begun (facts p) → (k : ℕ) → 1 ≤ k → k ≤ 64 → OwnPart start (facts p) k
  pub registers : RegistersTell (facts p)
  pub none_stands : AfterClose (facts p) → (o : Offer) → Stands o (facts p) → ⊥
  pub latest : Latest start p

-- At a history, and at every history that it grew from.
abbrev pub Everywhere : (Past → Type 0) → Past → Type 0
Everywhere P [] = P []
Everywhere P (e ∷ p) = P (e ∷ p) × Everywhere P p

abbrev pub Lawful : Type 0
Lawful = (start : ℕ → ℕ) (p : Past) → Judged start p → Everywhere (Law start) p

-- A refused call leaves every fact, and so all holdings and all that a later call is judged by, and the posts left.
abbrev pub RefusalsChangeNothing : Type 0
RefusalsChangeNothing = (e : Event) (p : Past) (fault : RegistryFault) → e.answer ≡ Err fault
    → (facts (e ∷ p) ≡ facts p) × ((m : ℕ) → Shows m (e ∷ p) → m ≡ e.shown)
