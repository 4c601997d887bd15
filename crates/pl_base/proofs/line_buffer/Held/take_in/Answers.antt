use Rattle.std.proofs.Common.{arith, ap, ◌≤◌, ◌+◌, length, ℕ}
use Rattle.std.proofs.lemmas.List.{length-take}
use Rattle.pl_base.specs.LineBuffer.{ends_line}
use Rattle.pl_base.proofs.Lines.{slice_range-lines, slice_range-none, slice_range-cuts, no_line_feed-rest, no_line_feed-join}
use Rattle.pl_base.proofs.line_buffer.Held.take_in.Goals as goal
use Rattle.pl_base.proofs.line_buffer.Held.take_in.Goals.{then-lines-gt0, else-lines-gt0}

pub returns-clause-lines : goal.returns-clause-lines
returns-clause-lines c =
    let held = c.args.self.now in
    let start : held.start ≤ held.end = omega (arith, c.requires.ordered.start, c.requires.ordered.whole) in
    let fits : c.lines_len-lines.result ≤ c.args.count = omega (arith, c.lines_len-lines.ensures.within, length-take {A = ℕ}) in
    let within : held.end + c.args.count ≤ length held.bytes.items = omega (arith, c.requires.read, c.deref.ensures.len, ap length c.deref.ensures.value) in
    elim c.if-lines-gt0.branch [
      | then-lines-gt0 w ↦ rw w.self-is (slice_range-lines held.bytes.items held.start held.end c.lines_len-lines.result c.args.count start w.if-lines-gt0.true fits within (rw c.deref.ensures.value at c.lines_len-lines.ensures.lines))
      | else-lines-gt0 w ↦ rw w.self-is (ap ends_line (slice_range-none held.bytes.items held.start held.whole c.requires.empty))
    ]

pub returns-clause-begun : goal.returns-clause-begun
returns-clause-begun c =
    let held = c.args.self.now in
    let fits : c.lines_len-lines.result ≤ c.args.count = omega (arith, c.lines_len-lines.ensures.within, length-take {A = ℕ}) in
    elim c.if-lines-gt0.branch [
      | then-lines-gt0 w ↦ rw w.self-is (no_line_feed-rest held.bytes.items held.end c.lines_len-lines.result c.args.count fits (rw c.deref.ensures.value at c.lines_len-lines.ensures.last))
      | else-lines-gt0 w ↦ rw w.self-is (no_line_feed-join held.bytes.items held.whole held.end c.lines_len-lines.result c.args.count c.requires.ordered.whole (omega (arith, w.if-lines-gt0.false)) c.requires.begun (rw c.deref.ensures.value at c.lines_len-lines.ensures.last))
    ]

pub returns-clause-joined : goal.returns-clause-joined
returns-clause-joined c =
    let held = c.args.self.now in
    let start : held.start ≤ held.end = omega (arith, c.requires.ordered.start, c.requires.ordered.whole) in
    let fits : c.lines_len-lines.result ≤ c.args.count = omega (arith, c.lines_len-lines.ensures.within, length-take {A = ℕ}) in
    elim c.if-lines-gt0.branch [
      | then-lines-gt0 w ↦ rw w.self-is (slice_range-cuts held.bytes.items held.start held.whole (held.end + c.lines_len-lines.result) held.end (held.end + c.args.count) c.requires.empty (omega arith) (omega arith) c.requires.ordered.whole (omega arith))
      | else-lines-gt0 w ↦ rw w.self-is (slice_range-cuts held.bytes.items held.start held.whole held.whole held.end (held.end + c.args.count) c.requires.empty c.requires.ordered.start (omega (arith, c.requires.ordered.whole)) c.requires.ordered.whole (omega arith))
    ]
