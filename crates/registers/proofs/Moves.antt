-- What a rotation of a part of the places, and a write to its first, leave of their front.
use Rattle.std.proofs.Common.{◌≡◌, ℕ, ◌+◌, ◌-◌, ◌<◌, ◌≤◌, List, length, get_or, take, drop, set, arith, rules}
use borrow.Rule.Slice.PartMut.{put_mid}
use Rattle.std.specs.List.{insert as opened}
use Rattle.std.proofs.lemmas.List.{same_lists, places, get_or-set_same}
use Rattle.std.proofs.lemmas.Bool.{cases_eq}

pub opens : {X : Type 0} (xs ys : List X) (len at : ℕ) (x : X) → at ≤ len → len < length xs → length ys ≡ len + 1 - at → ((k : ℕ) (d : X) → 1 ≤ k → k < len + 1 - at → get_or ys k d ≡ get_or (take (len + 1 - at) (drop at xs)) (k - 1) d) → take (len + 1) (set (put_mid at (len + 1 - at) xs ys) at x) ≡ opened (take len xs) at x
opens xs ys len at x le lt long is = same_lists _ _ (search (rules, places)) (λ k d h. grind (arith, places, get_or-set_same, cases_eq k at))
