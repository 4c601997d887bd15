use Rattle.ring_feed.proofs.Outlets.{room_empty}
use Rattle.ring_feed.proofs.feeder.make_room.Goals as goal

pub returns-clause-room : goal.returns-clause-room
returns-clause-room g c on = room_empty c.offer_all.new.outlets (c.offer_all.ensures.none on)
