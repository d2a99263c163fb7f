-- The law holds at every history whose answers are the judgements.
use Rattle.std.proofs.Common.{◌≡◌, ℕ, zero, suc, ◌+◌, ◌<◌, ◌≤◌, true, false, ◌||◌, eqb, ◌⊎◌, List, [], ◌∷◌, Some, None, Ok, Err, sym, refl, ap, ◌∙◌, subst, inl, inr, ⊎_elim, arith}
use Rattle.std.proofs.lemmas.Bool.{false≢true, both_ways, eqb-true, cases_eq, cond_both}
use Rattle.registers.specs.Laws.{Member}
use Rattle.rules.specs.declared.records.Offer.{Offer}
use Rattle.rules.specs.declared.calls.Stage.{Stage}
use Rattle.rules.specs.declared.calls.Stage.TheVariants.{Blank, Trading, Closed, Settled}
use Rattle.rules.specs.declared.calls.Call.{Call}
use Rattle.rules.specs.declared.calls.Call.TheVariants.{Begin, Open, Certify, Rebalance, Offer as MakeOffer, Accept, Recall, Load, Close, Settle, Report}
use Rattle.rules.specs.declared.calls.Reply.{Reply}
use Rattle.rules.specs.declared.calls.Reply.TheVariants.{Done}
use Rattle.rules.specs.declared.faults.RegistryFault.TheVariants.{NotEmpty}
use Rattle.rules.specs.Year.{blank_year, is_blank, is_trading, is_closed, is_settled}
use Rattle.rules.specs.Facts.{Fact, did}
use Rattle.rules.specs.Judgement.{Answer, fields, lowest_holder, judge}
use Rattle.law.specs.Law.{Event, Past, year, holds, also, facts, Judged, Begun, AcceptedSo, AnsweredSo, Latest, RegistersTell, Law, Lawful}
use Rattle.law.proofs.Says.{Says, says_weaker, says_in_range, says_unless}
use Rattle.law.proofs.Kept.{Kept, registers_tell}
use Rattle.law.proofs.Steps.{begins, keeps}
use Rattle.law.proofs.Answered.{Said, answer}

-- An accepted call keeps what a history keeps, and its reply w is as the law says.
abbrev GoesOn : (ℕ → ℕ) → List Fact → Call → Reply → Type 0
GoesOn start fs c w = Kept start (did (year fs) c ∷ fs) × AcceptedSo start fs c w

-- Where no holder is found, none holds anything.
none_holds : (f : ℕ → ℕ) (n a : ℕ) → lowest_holder f n a ≡ None → (k : ℕ) → a ≤ k → k < a + n → f k ≡ 0
unfolding lowest_holder
none_holds f zero a e k low high = absurd (omega arith)
none_holds f (suc n) a e k low high =
    cond_both (eqb (f a) 0) (lowest_holder f n (a + 1)) (Some a) (λ o. o ≡ None → f k ≡ 0)
    (λ here later.
    ⊎_elim
    (λ (same : k ≡ a). ap f same ∙ eqb-true (f a) 0 here)
    (λ (other : k ≡ a → ⊥). none_holds f n (a + 1) later k (omega (arith, other)) (omega arith))
    (cases_eq k a))
    (λ _ some. absurd (let z : ◌≡◌ {A = ℕ} 0 1 = cc in omega arith))
    e

-- The first call that is accepted is a begin, over a ledger that holds nothing.
first : (start : ℕ → ℕ) (m : ℕ) (c : Call) → Says (GoesOn start [] c) (judge blank_year start m c)
first start m (Begin n security) =
    says_in_range (GoesOn start [] (Begin n security)) 1 (fields blank_year (Begin n security)) _ (λ _.
    says_unless (GoesOn start [] (Begin n security)) (lowest_holder start 64 1) NotEmpty (Ok Done) (λ a e. tt) (λ none.
    (begins start n security (λ k low high. none_holds start 64 1 none k low (omega arith)), tt)))
first start m (Open a) = tt
first start m (Certify i a method supply) = tt
first start m (Rebalance i supply) = tt
first start m (MakeOffer i s b x) = tt
first start m (Accept i a) = tt
first start m (Recall i a) = tt
first start m (Load a t s) = tt
first start m Close = tt
first start m (Settle u v) = tt
first start m (Report a) = tt

later : (start : ℕ → ℕ) (fs : List Fact) → Kept start fs → (m : ℕ) (c : Call) → Says (GoesOn start fs c) (judge (year fs) (holds start fs) m c)
later start fs kept m c =
    says_weaker (Said start fs c) (GoesOn start fs c) (λ w said. (keeps start fs kept (did (year fs) c) said.0, said.1)) (judge (year fs) (holds start fs) m c) (answer start fs kept m c)

-- Nothing is accepted yet, or all is kept.
abbrev NothingOrKept : (ℕ → ℕ) → List Fact → Type 0
NothingOrKept start fs = (fs ≡ []) ⊎ Kept start fs

goes_on : (start : ℕ → ℕ) (fs : List Fact) → NothingOrKept start fs → (m : ℕ) (c : Call) → Says (GoesOn start fs c) (judge (year fs) (holds start fs) m c)
goes_on start fs so m c =
    ⊎_elim
    (λ (none : fs ≡ []). subst (λ (gs : List Fact). Says (GoesOn start gs c) (judge (year gs) (holds start gs) m c)) (sym none) (first start m c))
    (λ (kept : Kept start fs). later start fs kept m c)
    so

answered : (start : ℕ → ℕ) (e : Event) (p : Past) → Judged start (e ∷ p) → NothingOrKept start (facts p) → Says (GoesOn start (facts p) e.call) e.answer
answered start e p j so = subst (Says (GoesOn start (facts p) e.call)) (sym j.0) (goes_on start (facts p) so e.shown e.call)

nothing_or_kept : (start : ℕ → ℕ) (p : Past) → Judged start p → NothingOrKept start (facts p)
nothing_or_kept start [] j = inl refl
nothing_or_kept start (e ∷ p) j = let before = nothing_or_kept start p j.2 in go e.answer (answered start e p j before) before
  where
    go : (r : Answer) → Says (GoesOn start (facts p) e.call) r → NothingOrKept start (facts p) → NothingOrKept start (also r (did (year (facts p)) e.call) (facts p))
    go (Ok w) says before = inr says.0
    go (Err fault) says before = before

kept_from : (start : ℕ → ℕ) (p : Past) → Judged start p → Begun (facts p) → Kept start (facts p)
kept_from start p j begun =
    ⊎_elim
    (λ (none : facts p ≡ []). absurd (both_ways (is_blank (year (facts p)).stage) begun (ap (λ (fs : List Fact). is_blank (year fs).stage) none)))
    (λ (kept : Kept start (facts p)). kept)
    (nothing_or_kept start p j)

latest : (start : ℕ → ℕ) (p : Past) → Judged start p → Latest start p
latest start [] j = tt
latest start (e ∷ p) j = go e.answer (answered start e p j (nothing_or_kept start p j.2))
  where
    go : (r : Answer) → Says (GoesOn start (facts p) e.call) r → AnsweredSo start (facts p) e.call r
    go (Ok w) says = says.1
    go (Err fault) says = says

none_told : RegistersTell []
none_told =
    record {
      accounts_rise = tt;
      entities_rise = tt;
      offers_rise = tt;
      opened_listed = λ a m. m;
      listed_opened = λ k o. absurd o;
      levelled_listed = λ e l. l;
      listed_levelled = λ e m. m;
      stands_listed = λ o s. s;
      listed_stands = λ o m. m;
    }

past_trading : (s : Stage) → (is_closed s || is_settled s) ≡ true → (is_blank s ≡ false) × (is_trading s ≡ false)
past_trading Blank e = absurd (false≢true e)
past_trading Trading e = absurd (false≢true e)
past_trading Closed e = (refl, refl)
past_trading Settled e = (refl, refl)

law : (start : ℕ → ℕ) (p : Past) → Judged start p → Law start p
law start p j =
    record {
      conserved = λ begun. let kept = kept_from start p j begun in omega (arith, kept.levels, kept.sums);
      own_parts = λ begun. (kept_from start p j begun).part;
      registers =
          ⊎_elim
          (λ (none : facts p ≡ []). subst RegistersTell (sym none) none_told)
          (λ (kept : Kept start (facts p)). registers_tell start (facts p) kept)
          (nothing_or_kept start p j);
      none_stands = λ closed o stands.
          let past = past_trading (year (facts p)).stage closed in
          let kept = kept_from start p j past.0 in
          subst (λ (os : List Offer). Member o os) (kept.over past.1) (kept.offers.listed o stands);
      latest = latest start p j;
    }

pub lawful : Lawful
lawful start [] j = law start [] j
lawful start (e ∷ p) j = (law start (e ∷ p) j, lawful start p j.2)
