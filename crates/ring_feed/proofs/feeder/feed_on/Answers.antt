use Rattle.std.proofs.Common.{rules, arith}
use Rattle.ring_feed.proofs.feeder.feed_on.Goals as goal

pub returns-then-not-make_room-clause-outlets : goal.returns-then-not-make_room-clause-outlets
returns-then-not-make_room-clause-outlets g c = c.make_room.ensures.keeps (g.F.Feed.rest c.args.feed.now) c.requires.outlets

pub loop-init : goal.loop-init
loop-init g c = record {
  outlets = c.make_room.ensures.keeps (g.F.Feed.rest c.args.feed.now) c.requires.outlets;
  rings = c.make_room.ensures.rings;
  room = c.make_room.ensures.room (search rules);
  size = omega arith;
}
