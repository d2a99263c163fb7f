use Rattle.std.proofs.Common.{◌≡◌, ℕ, ◌<◌, true, List, length, get_or, take, sym, subst, rules}
use Rattle.places.specs.Held.{items}
use Rattle.ledger.specs.declared.movement.Movement.{Movement}
use Rattle.ledger.specs.Holdings.{moving, moved, covers, Sound}
use Rattle.ledger.proofs.Folds.{serves_from_fold}
use Rattle.ledger.proofs.movements.Movements.held.Goals as goal

-- each movement found room on what the ones before it left to its account
room_at : (ms : List Movement) → Sound ms → (n k : ℕ) (m : Movement) → n < length ms → m ≡ get_or ms n m → k ≡ m.account → covers m.side (moved (take n ms) k) m.amount ≡ true
room_at ms sound n k m lt is e = rw e (subst (λ (x : Movement). covers x.side (moved (take n ms) x.account) x.amount ≡ true) (sym is) (sound n m lt))

pub fold-requires-clause-callable : goal.fold-requires-clause-callable
fold-requires-clause-callable c =
    serves_from_fold (moving c.args.account) 0 (items c.args.self.now.posts) (cc) (λ b x q r. search rules)
    (λ n x lt is. let room = room_at (items c.args.self.now.posts) c.args.self.now.sound n c.args.account x.now lt is in search rules)
