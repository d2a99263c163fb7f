use Rattle.postings.proofs.Returns.{real_at}
use Rattle.postings.proofs.first_without_room.Goals as goal

pub has_room-requires : goal.has_room-requires
has_room-requires g c = (real_at c.args.offers.now c.loop-offer.offer-index _ c.loop-offer-test.true c.requires).0
