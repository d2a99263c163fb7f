-- A fold over a slice, whose closure may be called only where each item finds what the ones before it left.
use Rattle.std.proofs.Common.{◌≡◌, ℕ, ◌<◌, List, [], ◌∷◌, length, get_or, take, map, refl, sym, ap, subst, ◌∙◌, Bor, Iter, Some}
use Rattle.std.specs.List.{fold}
use Rattle.std.specs.Iterator.{CallableAtEachTurn}
use Rattle.std.specs.Slice.Iter.{iter_rest}
use Rattle.std.proofs.iter.Yields.{fronts}
use Rattle.std.proofs.lemmas.Fn.{serves_by}
use Rattle.std.proofs.lemmas.Iterator.{YieldsList-from_slice}
use Rattle.std.proofs.lemmas.Iterator.Consumers.{YieldsList-so_far, YieldsList-turn}
use Rattle.std.proofs.lemmas.List.{map-append}
use Rattle.std.proofs.lemmas.List.Sums.{fold_push}

-- the closure computes h, and may be called at each item of xs on the fold of the ones before it
pub serves_from_fold : {A B F : Type 0} {R : F × B → Bor A → F × B → Type 0} {Q : F × B → Bor A → Type 0} {f : F} {s : Iter A} (h : B → A → B) (a : B) (xs : List A) → iter_rest s ≡ xs
    → ((b : B) (x : Bor A) (q : F × B) → R (f, b) x q → (q.0 ≡ f) × (q.1 ≡ h b x.now))
    → ((n : ℕ) (x : Bor A) → n < length xs → x.now ≡ get_or xs n x.now → Q (f, fold h a (take n xs)) x)
    → CallableAtEachTurn {P = F × B} fronts R Q s (f, a)
serves_from_fold {A} {B} {F} {R} {Q} {f} {s} h a xs e computes asks =
    let road = YieldsList-from_slice {s = s} xs e in
    serves_by R (λ ys q. (q.0 ≡ f) × (q.1 ≡ fold h a (map (λ y. y.now) ys)))
    (λ ys q x w j r.
    let made = computes q.1 x w (subst (λ g. R (g, q.1) x w) j.0 r) in
    let more = ap (fold h a) (map-append (λ y. y.now) ys (x ∷ [])) ∙ fold_push h a (map (λ y. y.now) ys) x.now in
    (made.0, made.1 ∙ ap (λ b. h b x.now) j.1 ∙ sym more))
    fronts Q s (f, a) (refl, refl)
    (λ ys t q x u y st j.
    let found = YieldsList-turn road ys t y (Some x) u x refl st in
    let so_far = j.1 ∙ ap (fold h a) (YieldsList-so_far road ys t y) in
    subst (λ g. Q (g, q.1) x) (sym j.0) (subst (λ b. Q (f, b) x) (sym so_far) (asks (length ys) x found.0 found.1)))
