use Rattle.std.proofs.Common.{◌≡◌, drop}
use Rattle.rules.specs.Judgement.{first_without_room}
use Rattle.postings.proofs.first_without_room.Given as goal

abbrev pub invariant-loop-offer : goal.invariant-loop-offer
invariant-loop-offer g l =
    first_without_room (g.L.Ledger.holding l.ledger) l.all (drop l.offer-index l.offers) ≡ first_without_room (g.L.Ledger.holding l.ledger) l.all l.offers
