use Rattle.std.proofs.Common.{◌+◌, ◌<◌, ◌++◌, List, length, take, sym, ◌∙◌, subst, arith}
use Rattle.pl_event.specs.declared.log.Line.{Line}
use Rattle.arc_capture.specs.Marker.{HasMarked}
use Rattle.arc_capture.proofs.MarkingAll.{at_index, may_mark, marked_more}
use Rattle.arc_capture.proofs.marker.Marker.mark_into.Goals as goal

pub mark-requires : goal.mark-requires
mark-requires c =
    let first = c.args.self.now in
    let now = c.loop-at.self in
    let size = c.requires.0 in
    let base = c.requires.1 in
    let lines = c.requires.2 in
    let may = c.requires.3 in
    let more = c.args.more.now in
    let i = c.loop-at.at in
    let line = c.index-more-at.result in
    let low : c.loop-at.at < length c.args.more.now = omega (arith, c.loop-at-test.true) in
    let at = at_index more i line low c.index-more-at.is in
    (size, base ++ take i more, lines ++ c.loop-at.marked.items, may_mark first now size base lines more c.loop-at.marked.items i line at c.loop-at.invariant.0 may (c.loop-at.invariant.1 size base lines may))

pub loop-at-preserved : goal.loop-at-preserved
loop-at-preserved c = (
  c.mark.ensures.harts ∙ c.loop-at.invariant.0,
  λ size base lines may.
      let first = c.args.self.now in
      let now = c.loop-at.self in
      let more = c.args.more.now in
      let i = c.loop-at.at in
      let made = c.loop-at.marked.items in
      let line = c.index-more-at.result in
      let low : c.loop-at.at < length c.args.more.now = omega (arith, c.loop-at-test.true) in
      let at = at_index more i line low c.index-more-at.is in
      let same = c.loop-at.invariant.0 in
      let next = may_mark first now size base lines more made i line at same may (c.loop-at.invariant.1 size base lines may) in
      subst (λ (z : List Line). HasMarked c.mark.new.self size (base ++ take (c.loop-at.at + 1) more) (lines ++ z)) (sym c.in_ok-push.ensures.items)
      (marked_more first now size base lines more made i line at same c.mark.new.self c.in_ok-line.line (c.in_ok-line.ensures.ok size (base ++ take i more) (lines ++ made) next)),
)
