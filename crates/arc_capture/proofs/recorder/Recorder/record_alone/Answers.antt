use Rattle.std.proofs.Common.{[], ◌∷◌, ◌++◌, List, sym, ap, ◌∙◌, subst}
use Rattle.pl_event.specs.declared.log.Line.{Line}
use Rattle.conflict_alerts.specs.Placing.{placed}
use Rattle.arc_capture.specs.Marker.{HasMarked}
use Rattle.arc_capture.specs.Recorder.{HasRecorded}
use Rattle.arc_capture.proofs.Feeding.{may_place, may_mark_alone, has_recorded}
use Rattle.arc_capture.proofs.recorder.Recorder.record_alone.Goals as goal

pub place_alone-line-requires-clause-place : goal.place_alone-line-requires-clause-place
place_alone-line-requires-clause-place c =
    let feed = c.requires.feed in
    (feed.1, may_place c.args.self.now.placer c.args.self.now.marker feed.0 feed.1 feed.2 c.args.event.now feed.3)

pub mark-requires : goal.mark-requires
mark-requires c =
    let placer = c.args.self.now.placer in
    let marker = c.args.self.now.marker in
    let event = c.args.event.now in
    let feed = c.requires.feed in
    let place = may_place placer marker feed.0 feed.1 feed.2 event feed.3 in
    (feed.0, placed placer.harts feed.1, feed.2, may_mark_alone placer marker feed.0 feed.1 feed.2 event feed.3 c.place_alone-line.result (c.place_alone-line.ensures.line feed.1 place))

pub returns-clause-ok : goal.returns-clause-ok
returns-clause-ok c size events lines may =
    let placer = c.args.self.now.placer in
    let marker = c.args.self.now.marker in
    let event = c.args.event.now in
    let line = c.place_alone-line.result in
    let place = may_place placer marker size events lines event may in
    let alone = c.place_alone-line.ensures.line events place in
    let marked = c.in_ok-marked.ensures.ok size (placed placer.harts events) lines (may_mark_alone placer marker size events lines event may line alone) in
    let base = placed placer.harts events in
    let after = c.mark.new.self in
    let made : List Line = c.in_ok-marked.marked ∷ [] in
    subst (λ (z : List Line). HasRecorded c.place_alone-line.new.self after size (events ++ event ∷ []) (lines ++ z))
    (sym (c.in_ok-push.ensures.items ∙ ap (λ (z : List Line). z ++ made) c.clear.ensures.items))
    (has_recorded placer marker size events lines event may c.place_alone-line.new.self after made c.place_alone-line.ensures.harts c.mark.ensures.harts (c.place_alone-line.ensures.placed events place)
    (subst (λ (z : List Line). HasMarked after size (base ++ z) (lines ++ made)) (sym alone) marked))
