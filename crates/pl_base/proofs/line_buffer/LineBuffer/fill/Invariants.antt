use Rattle.std.proofs.Common.{◌≡◌, [], false}
use Rattle.pl_base.specs.LineBuffer.{Reads}
use Rattle.pl_base.proofs.line_buffer.LineBuffer.fill.Given as goal

abbrev pub invariant-loop-self : goal.invariant-loop-self
invariant-loop-self g l = record {
  reads : Reads (g.S.Source.left l.fn.source) (g.S.Source.left l.source) l.fn.self l.self;
  empty : l.self.front ≡ [];
  going : l.self.ended ≡ false;
  quiet : g.S.Source.faults l.source ≡ g.S.Source.faults l.fn.source;
}

abbrev pub decreases-loop-self : goal.decreases-loop-self
decreases-loop-self g l = l.self.spare
