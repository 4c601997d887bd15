use Rattle.std.proofs.Common.{◌≡◌, ℕ, ◌++◌, List, take}
use Rattle.pl_event.specs.declared.log.Line.{Line}
use Rattle.arc_capture.specs.Marker.{HasMarked}
use Rattle.arc_capture.specs.Recorder.{MayMarkAll}
use Rattle.arc_capture.proofs.marker.Marker.mark_into.Given as goal

abbrev pub invariant-loop-at : goal.invariant-loop-at
invariant-loop-at l = (l.self.reducer.harts ≡ l.initial.self.reducer.harts)
    × ((size : ℕ) (base lines : List Line) → MayMarkAll l.initial.self size base lines l.more → HasMarked l.self size (base ++ take l.at l.more) (lines ++ l.marked.items))
