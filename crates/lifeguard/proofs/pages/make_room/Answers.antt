use Rattle.std.proofs.Common.{arith, ◌∙◌}
use Rattle.lifeguard.proofs.PageLemmas.{room_more, same_on_page}
use Rattle.lifeguard.proofs.pages.make_room.Goals as goal

pub returns-in_err-make_room-clause-same : goal.returns-in_err-make_room-clause-same
returns-in_err-make_room-clause-same c =
    same_on_page c.loop-number.pages c.loop-number.number c.index-pages-number.result c.make_room.new.self (omega arith) c.make_room.ensures.same
    ∙ c.loop-number.invariant.same

pub loop-number-preserved : goal.loop-number-preserved
loop-number-preserved c = record {
  room = room_more c.loop-number.pages c.args.page c.loop-number.number c.make_room.new.self (omega arith) (omega arith) c.in_ok-make_room.ensures.room c.loop-number.invariant.room;
  same = same_on_page c.loop-number.pages c.loop-number.number c.index-pages-number.result c.make_room.new.self (omega arith) c.make_room.ensures.same
      ∙ c.loop-number.invariant.same;
}
