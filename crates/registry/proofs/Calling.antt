-- How a call is judged, put together from the steps of its code.
use Rattle.std.proofs.Common.{◌≡◌, ℕ, ◌+◌, ◌-◌, ◌<◌, ◌≤◌, Bool, true, false, cond, not, eqb, ltb, List, [], ◌∷◌, length, is_some, Some, Ok, Err, Option, Result, sym, refl, ap, ◌∙◌, subst, ap₂, arith}
use Rattle.std.proofs.lemmas.Bool.{cond-true, cond-false, lt-ltb}
use Rattle.curves.specs.declared.ranges.OutOfRange.{OutOfRange}
use Rattle.curves.specs.Ranges.{judged}
use Rattle.rules.specs.declared.calls.Call.{Call}
use Rattle.rules.specs.declared.calls.Reply.{Reply}
use Rattle.rules.specs.declared.calls.Stage.TheVariants.{Trading}
use Rattle.rules.specs.declared.faults.RegistryFault.{RegistryFault}
use Rattle.rules.specs.declared.faults.RegistryFault.TheVariants.{OutOfRange as FieldOutOfRange, InUse}
use Rattle.curves.specs.declared.levels.Method.{Method}
use Rattle.curves.specs.declared.levels.Supply.{Supply}
use Rattle.curves.specs.Levels.{guarantees, method_at}
use Rattle.rules.specs.declared.calls.Call.TheVariants.{Open, Certify, Rebalance}
use Rattle.rules.specs.Year.{Year, is_open, entity_in}
use Rattle.registers.specs.Rows.{inserted}
use Rattle.rules.specs.declared.records.Entity.{Entity}
use Rattle.rules.specs.Records.{entity_number}
use Rattle.rules.specs.Facts.{did, after, moved, posts_of, to, with_entities}
use Rattle.rules.specs.Judgement.{Answer, judge, in_range, fields, needs, ruling, levelling, rebalancing}
use Rattle.rules.specs.Calls.{Called}

-- a refused call leaves everything
pub refused : (c : Call) (fault : RegistryFault) (y : Year) (f g : ℕ → ℕ) (m n : ℕ) → Err fault ≡ judge y f m c → ((k : ℕ) → g k ≡ f k) → n ≤ m → m ≤ n + 0 → Called c (Err fault) y y f g m n
refused c fault y f g m n is same most least = record { answer = is; year = refl; holds = same; posts = (most, least) }

-- an accepted call has done its fact
pub accepted : (c : Call) (w : Reply) (y y' : Year) (f g : ℕ → ℕ) (m n : ℕ) → Ok w ≡ judge y f m c → y' ≡ after (did y c) y → ((k : ℕ) → g k ≡ moved (did y c) f k) → n ≤ m → m ≤ n + posts_of (did y c) → Called c (Ok w) y y' f g m n
accepted c w y y' f g m n is done held most least = record { answer = is; year = done; holds = held; posts = (most, least) }

-- fields in range, and the first that is not
pub fields_fine : {X A : Type 0} (place : ℕ) (checks : List Bool) (value x : X) (rest : Result A RegistryFault) → judged place checks value ≡ Ok x → in_range place checks rest ≡ rest
fields_fine place [] value x rest e = refl
fields_fine place (true ∷ checks) value x rest e = fields_fine (place + 1) checks value x rest e
fields_fine place (false ∷ checks) value x rest e = absurd (let z : ◌≡◌ {A = ℕ} 0 1 = cc in omega arith)

pub field_blamed : {X A : Type 0} (place : ℕ) (checks : List Bool) (value : X) (rest : Result A RegistryFault) (fault : OutOfRange) → judged place checks value ≡ Err fault → in_range place checks rest ≡ Err (FieldOutOfRange fault.field)
field_blamed place [] value rest fault e = absurd (let z : ◌≡◌ {A = ℕ} 0 1 = cc in omega arith)
field_blamed place (true ∷ checks) value rest fault e = field_blamed (place + 1) checks value rest fault e
field_blamed place (false ∷ checks) value rest fault e =
    let same : ◌≡◌ {A = OutOfRange} (record { field = place }) fault = cc in
    ap (λ (o : OutOfRange). Err (FieldOutOfRange o.field)) same

pub judged_value : {X : Type 0} (place : ℕ) (checks : List Bool) (value x : X) → judged place checks value ≡ Ok x → x ≡ value
judged_value place [] value x e = let same : value ≡ x = cc in sym same
judged_value place (true ∷ checks) value x e = judged_value (place + 1) checks value x e
judged_value place (false ∷ checks) value x e = absurd (let z : ◌≡◌ {A = ℕ} 0 1 = cc in omega arith)

-- the judgement of a call in its stage
pub judged_by_ruling : {X : Type 0} (c : Call) (y : Year) (f : ℕ → ℕ) (m : ℕ) (value x : X) (a : Answer) → needs c y.stage ≡ true → judged 1 (fields y c) value ≡ Ok x → ruling y f m c ≡ a → a ≡ judge y f m c
judged_by_ruling c y f m value x a stage fine is =
    sym (cond-true (needs c y.stage) _ _ stage ∙ fields_fine 1 (fields y c) value x (ruling y f m c) fine ∙ is)

pub judged_by_field : {X : Type 0} (c : Call) (y : Year) (f : ℕ → ℕ) (m : ℕ) (value : X) (fault : OutOfRange) → needs c y.stage ≡ true → judged 1 (fields y c) value ≡ Err fault → Err (FieldOutOfRange fault.field) ≡ judge y f m c
judged_by_field c y f m value fault stage blamed =
    sym (cond-true (needs c y.stage) _ _ stage ∙ field_blamed 1 (fields y c) value (ruling y f m c) fault blamed)

-- a first level is credited whole
pub first_level : (h a l k : ℕ) → (h + to a (l - 0) k) - to a (0 - l) k ≡ h + to a l k
first_level h a l k = go (eqb k a)
  where
    go : (b : Bool) → (h + cond b (l - 0) 0) - cond b (0 - l) 0 ≡ h + cond b l 0
    go true = omega arith
    go false = omega arith

-- past the checks of a certification, the ledger decides
pub certify_judged : (y : Year) (f : ℕ → ℕ) (m i a number : ℕ) (supply : Supply) (method : Method) (level : ℕ) → y.stage ≡ Trading
    → judged 1 (fields y (Certify i a number supply)) (method_at number) ≡ Ok method → is_open y a ≡ true → is_some (entity_in y i) ≡ false → length y.entities < 64 → level ≡ guarantees method supply
    → levelling f m a 0 level ≡ judge y f m (Certify i a number supply)
certify_judged y f m i a number supply method level trading fine opened free few is =
    let same : method ≡ method_at number = judged_value 1 (fields y (Certify i a number supply)) (method_at number) method fine in
    judged_by_ruling (Certify i a number supply) y f m (method_at number) method _ (ap (needs (Certify i a number supply)) trading) fine
    (cond-true (is_open y a) _ _ opened
    ∙ cond-true (not (is_some (entity_in y i))) _ _ (ap not free)
    ∙ cond-true (ltb (length y.entities) 64) _ _ (lt-ltb (length y.entities) 64 few)
    ∙ ap (levelling f m a 0) (sym (is ∙ ap (λ (k : Method). guarantees k supply) same)))

pub certify_called : (y : Year) (f g : ℕ → ℕ) (m n i a number : ℕ) (supply : Supply) (method : Method) (level : ℕ) (w : Reply) (entities : List Entity) → y.stage ≡ Trading
    → judged 1 (fields y (Certify i a number supply)) (method_at number) ≡ Ok method → is_open y a ≡ true → is_some (entity_in y i) ≡ false → length y.entities < 64 → level ≡ guarantees method supply
    → Ok w ≡ levelling f m a 0 level → ((k : ℕ) → g k ≡ (f k + to a (level - 0) k) - to a (0 - level) k) → n ≤ m → m ≤ n + cond (eqb level 0) 0 1
    → entities ≡ inserted entity_number (record { number = i; account = a; method = method; level = level }) y.entities
    → Called (Certify i a number supply) (Ok w) y (with_entities entities y) f g m n
certify_called y f g m n i a number supply method level w entities trading fine opened free few is answer held most least listed =
    let same : method ≡ method_at number = judged_value 1 (fields y (Certify i a number supply)) (method_at number) method fine in
    let so : level ≡ guarantees (method_at number) supply = is ∙ ap (λ (k : Method). guarantees k supply) same in
    record {
      answer = answer ∙ certify_judged y f m i a number supply method level trading fine opened free few is;
      year = ap (λ (es : List Entity). with_entities es y) (listed ∙ ap₂ (λ (k : Method) (l : ℕ). inserted entity_number (record { number = i; account = a; method = k; level = l }) y.entities) same so);
      holds = λ k. held k ∙ first_level (f k) a level k ∙ ap (λ (l : ℕ). f k + to a l k) so;
      posts = (most, subst (λ (l : ℕ). m ≤ n + cond (eqb l 0) 0 1) so least);
    }

-- past the checks of a rebalancing, the ledger decides
pub rebalance_judged : (y : Year) (f : ℕ → ℕ) (m i : ℕ) (supply : Supply) (e : Entity) (level : ℕ) → y.stage ≡ Trading
    → judged 1 (fields y (Rebalance i supply)) (tt {0}) ≡ Ok tt → entity_in y i ≡ Some e → level ≡ guarantees e.method supply
    → levelling f m e.account e.level level ≡ judge y f m (Rebalance i supply)
rebalance_judged y f m i supply e level trading fine found is =
    judged_by_ruling (Rebalance i supply) y f m tt tt _ (ap (needs (Rebalance i supply)) trading) fine
    (ap (λ (o : Option Entity). rebalancing f m o supply) found ∙ ap (levelling f m e.account e.level) (sym is))

-- an account that is already open
pub open_ruled : (y : Year) (f : ℕ → ℕ) (m a : ℕ) → is_open y a ≡ true → ruling y f m (Open a) ≡ Err (InUse 1)
open_ruled y f m a opened = cond-false (not (is_open y a)) _ _ (ap not opened)
