use Rattle.std.proofs.Common.{◌≤◌, ◌-◌, ap, arith, length}
use Rattle.pl_base.specs.LineBuffer.{Window}
use Rattle.pl_base.specs.Held.{front_of}
use Rattle.pl_base.proofs.Lines.{ends_line-drop, slice_range-drop, slice_range-short}
use Rattle.pl_base.proofs.line_buffer.LineBuffer.pass.Goals as goal

pub invariant_of-self : goal.invariant_of-self
invariant_of-self c =
    let same = ap (λ (w : Window). length w.front) c.self.view_is in
    let fits : c.args.count ≤ c.self.inside.held.whole - c.self.inside.held.start = omega (arith, same, slice_range-short c.self.inside.held.bytes.items c.self.inside.held.start c.self.inside.held.whole) in
    record {
      ordered = record {
        start = omega (arith, c.self.invariant.ordered.start, fits);
        whole = c.self.invariant.ordered.whole;
        end = c.self.invariant.ordered.end;
        long = c.self.invariant.ordered.long;
      };
      begun = c.self.invariant.begun;
      lines = λ going. rw (← slice_range-drop _ _ _ _ fits) (ends_line-drop c.args.count (front_of c.self.inside.held) (c.self.invariant.lines going));
    }

pub returns : goal.returns
returns c =
    let same = ap (λ (w : Window). length w.front) c.self.view_is in
    let fits : c.args.count ≤ c.self.inside.held.whole - c.self.inside.held.start = omega (arith, same, slice_range-short c.self.inside.held.bytes.items c.self.inside.held.start c.self.inside.held.whole) in
    rw (← c.self.view_is, slice_range-drop _ _ _ _ fits)
