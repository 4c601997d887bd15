use Rattle.std.proofs.Common.{arith, ap, ◌+◌, length}
use Rattle.std.specs.List.{slice_range}
use Rattle.pl_base.specs.LineBuffer.{Window}
use Rattle.pl_base.proofs.Lines.{slice_range-long}
use Rattle.pl_base.proofs.line_buffer.LineBuffer.read_more.Goals as goal

pub make_room-requires-clause-empty : goal.make_room-requires-clause-empty
make_room-requires-clause-empty g c =
    let held = c.self.inside.held in
    let none = ap (λ (w : Window). length w.front) c.self.view_is in
    omega (arith, none, ap length c.requires.empty, slice_range-long held.bytes.items held.start held.whole (omega (arith, c.self.invariant.ordered)), c.self.invariant.ordered.start)

pub returns-then-count-self-clause-taken : goal.returns-then-count-self-clause-taken
returns-then-count-self-clause-taken g c =
    let held = c.read.new.self in
    let long = slice_range-long held.bytes.items held.end (held.end + c.in-Ok.count) (omega (arith, c.in-Ok.ensures.within.0)) in
    let spare = ap (λ (w : Window). w.spare) c.self.view_is in
    record {
      front = slice_range held.bytes.items held.end (held.end + c.in-Ok.count);
      long = omega (arith, long, spare, c.if-count-self.true);
      short = omega (arith, long, spare, c.in-Ok.ensures.within.1);
      taken = c.in-Ok.ensures.bytes;
    }
