use Rattle.std.proofs.Common.{ap, ◌∙◌, ◌++◌, List}
use Rattle.pl_event.specs.declared.log.Line.{Line}
use Rattle.arc_capture.proofs.Again.{may_feed, recorded_event}
use Rattle.arc_capture.proofs.recaptured.record_again.Goals as goal

pub returns-in_ok-push_all-in-Event-clause-ok : goal.returns-in_ok-push_all-in-Event-clause-ok
returns-in_ok-push_all-in-Event-clause-ok c size events may =
    let old = c.args.recorder.now in
    let new = c.feed_into.new.self in
    let before = c.args.lines.now in
    let what = c.args.what in
    let event = c.in-Event.event in
    let fed = c.in_ok-feed_into-in-Event.ensures.ok size events before (may_feed old.placer old.marker size events before what event c.in-Event.is may) in
    recorded_event new.placer new.marker size events before c.feed_into.new.lines.items c.push_all.new.lines what event c.in-Event.is
    (c.in_ok-push_all-in-Event.ensures ∙ ap (λ (more : List Line). before ++ more) c.deref.ensures.value) fed
