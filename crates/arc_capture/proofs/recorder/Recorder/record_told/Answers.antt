use Rattle.std.proofs.Common.{[], ◌∷◌, ◌++◌, List, sym, ap, ◌∙◌, subst}
use Rattle.std.proofs.lemmas.Result.{IfOk-weaker}
use Rattle.pl_event.specs.declared.log.Line.{Line}
use Rattle.conflict_alerts.specs.Placing.{lines_of, next_number, placed}
use Rattle.arc_capture.specs.Marker.{HasMarked}
use Rattle.arc_capture.specs.Recorder.{HasRecorded, MayMarkAll}
use Rattle.arc_capture.proofs.Feeding.{may_place, may_mark_all, has_recorded}
use Rattle.arc_capture.proofs.recorder.Recorder.record_told.Goals as goal

pub mark_into-requires : goal.mark_into-requires
mark_into-requires c =
    let placer = c.args.self.now.placer in
    let marker = c.args.self.now.marker in
    let event = c.args.event.now in
    let size = c.requires.0 in
    let events = c.requires.1 in
    let lines = c.requires.2 in
    let may = c.requires.3 in
    let new = c.in_ok-place_into.ensures.ok events (may_place placer marker size events lines event may) in
    (size, placed placer.harts events, lines, subst (MayMarkAll marker size (placed placer.harts events) lines) (sym (c.deref.ensures.value ∙ (new.0 ∙ ap (λ (z : List Line). z ++ lines_of placer.harts (next_number placer.harts events event.hart) event) c.clear.ensures.items))) (may_mark_all placer marker size events lines event may))

pub returns-clause-ok : goal.returns-clause-ok
returns-clause-ok c size events lines may =
    let placer = c.args.self.now.placer in
    let marker = c.args.self.now.marker in
    let event = c.args.event.now in
    let base = placed placer.harts events in
    let new = c.in_ok-place_into.ensures.ok events (may_place placer marker size events lines event may) in
    let same = c.deref.ensures.value ∙ (new.0 ∙ ap (λ (z : List Line). z ++ lines_of placer.harts (next_number placer.harts events event.hart) event) c.clear.ensures.items) in
    let may_all = subst (MayMarkAll marker size base lines) (sym same) (may_mark_all placer marker size events lines event may) in
    let marked = c.mark_into.new.marked.items in
    IfOk-weaker c.mark_into.result
    (λ _. HasMarked c.mark_into.new.self size (base ++ c.deref.result.now) (lines ++ marked))
    (λ _. HasRecorded c.place_into.new.self c.mark_into.new.self size (events ++ event ∷ []) (lines ++ marked))
    (λ _ has. has_recorded placer marker size events lines event may c.place_into.new.self c.mark_into.new.self marked c.place_into.ensures.harts c.mark_into.ensures.harts new.1
    (subst (λ (z : List Line). HasMarked c.mark_into.new.self size (base ++ z) (lines ++ marked)) same has))
    (c.mark_into.ensures.ok size base lines may_all)
