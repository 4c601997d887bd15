use Rattle.std.proofs.Common.{sym, subst}
use Rattle.pl_event.specs.Numbers.{hart_of}
use Rattle.arc_reduce.specs.Reduction.{AreChosen}
use Rattle.arc_reduce.specs.Taken.{with_line, next_number}
use Rattle.arc_capture.specs.Capture.{AreCandidates}
use Rattle.arc_capture.proofs.Marking.{may_capture, may_take, has_marked}
use Rattle.arc_capture.proofs.marker.Marker.mark.Goals as goal

pub take-requires : goal.take-requires
take-requires c = (c.requires.0, c.requires.1, may_capture c.args.self.now c.requires.0 c.requires.1 c.requires.2 c.args.line.now c.requires.3)

pub keep-requires : goal.keep-requires
keep-requires c =
    let marker = c.args.self.now in
    let line = c.args.line.now in
    let size = c.requires.0 in
    let base = c.requires.1 in
    let lines = c.requires.2 in
    let may = c.requires.3 in
    let found = c.eight-found.result in
    let are = subst (AreCandidates size base line) (sym c.eight-found.ensures.same) (c.in_ok-taken.ensures.ok size base (may_capture marker size base lines line may)).0 in
    (may.has.full, may_take marker size base lines line may found c.eight-found.ensures.long are)

pub returns-clause-ok : goal.returns-clause-ok
returns-clause-ok c size base lines may =
    let marker = c.args.self.now in
    let line = c.args.line.now in
    let found = c.eight-found.result in
    let take = c.in_ok-taken.ensures.ok size base (may_capture marker size base lines line may) in
    let are = subst (AreCandidates size base line) (sym c.eight-found.ensures.same) take.0 in
    let full = may.has.full in
    let keep = c.in_ok-kept.ensures.ok full (may_take marker size base lines line may found c.eight-found.ensures.long are) in
    has_marked marker size base lines line may found c.eight-found.ensures.long are (record { capture = c.take.new.self; reducer = c.keep.new.self }) c.eight-arcs.result c.eight-arcs.ensures.long take.1
    (subst (AreChosen (with_line full line found) (hart_of line.what) (next_number full line) found) (sym c.eight-arcs.ensures.same) keep.0) keep.1
