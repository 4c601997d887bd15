use Rattle.std.proofs.Common.{◌++◌, List, inr, subst}
use Rattle.std.proofs.lemmas.Result.{on_ok_weaker}
use Rattle.pl_event.specs.declared.event.Event.{Event}
use Rattle.run_record.specs.Recording.{HasLines}
use Rattle.run_record.proofs.Feeding.{may_feed_only, only}
use Rattle.run_record.proofs.recording.Recording.feed_one.Goals as goal

pub feed_into-requires : goal.feed_into-requires
feed_into-requires c =
    let feed = c.requires.feed in
    inr (16, feed.0, feed.1, may_feed_only c.args.self.now.recorder feed.0 feed.1 c.at.result c.args.events.now c.at.ensures feed.2)

pub returns-clause-ok : goal.returns-clause-ok
returns-clause-ok c before made may =
    let first = c.args.self.now.recorder in
    on_ok_weaker c.feed_into.result
    (subst (λ (es : List Event). HasLines c.feed_into.new.self (before ++ es) (made ++ c.feed_into.new.lines.items))
    (only first before made c.at.result c.args.events.now c.at.ensures c.requires.one))
    (c.feed_into.ensures.ok 16 before made (may_feed_only first before made c.at.result c.args.events.now c.at.ensures may))
