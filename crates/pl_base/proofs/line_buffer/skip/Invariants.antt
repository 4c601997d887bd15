use Rattle.std.proofs.Common.{◌≡◌, ◌≤◌, ◌<◌, ◌-◌, length}
use Rattle.pl_base.specs.Fronts.{TakesBetween}
use Rattle.pl_base.proofs.line_buffer.skip.Given as goal

abbrev pub invariant-loop-count : goal.invariant-loop-count
invariant-loop-count g l = record {
  taken : TakesBetween (g.S.Source.left l.fn.source) (g.S.Source.left l.source) (l.limit - l.spare) (l.limit - l.spare);
  within : l.spare ≤ l.limit;
  quiet : g.S.Source.faults l.source ≡ g.S.Source.faults l.fn.source;
  room : 0 < length l.piece;
}

abbrev pub decreases-loop-count : goal.decreases-loop-count
decreases-loop-count g l = l.spare
