use Rattle.postings.proofs.Returns.{returned_next}
use Rattle.postings.proofs.give_back.Goals as goal

pub loop-offer-preserved : goal.loop-offer-preserved
loop-offer-preserved g c =
    returned_next c.args.offers.now c.loop-offer.offer-index _ _ _ _ _ _ _ c.credit.result c.loop-offer-test.true c.requires.real c.requires.posts c.requires.room c.loop-offer.invariant c.credit.ensures.answer c.credit.ensures.holds c.credit.ensures.posts
