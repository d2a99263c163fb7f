use Rattle.postings.proofs.Returns.{Returned}
use Rattle.postings.proofs.give_back.Given as goal

abbrev pub invariant-loop-offer : goal.invariant-loop-offer
invariant-loop-offer g l =
    let m = g.L.Ledger in
    Returned l.offers l.offer-index (m.holding l.initial.ledger) (m.holding l.ledger) (m.posts l.initial.ledger) (m.posts l.ledger)
