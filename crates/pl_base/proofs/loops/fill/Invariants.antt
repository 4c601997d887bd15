use Rattle.std.proofs.Common.{◌≡◌, ◌≤◌, ◌<◌, ◌+◌, ◌-◌, vec_len, length}
use Rattle.std.specs.Io.KnownBytes.{Consumes}
use Rattle.pl_base.proofs.loops.fill.Given as goal

abbrev pub invariant-loop-count : goal.invariant-loop-count
invariant-loop-count g l = record {
  bytes : Consumes (g.S.Source.left l.fn.source) (g.S.Source.left l.source) l.all.items;
  within : vec_len l.all ≤ l.limit;
  quiet : g.S.Source.faults l.source ≡ g.S.Source.faults l.fn.source;
  room : 0 < length l.piece;
}

abbrev pub decreases-loop-count : goal.decreases-loop-count
decreases-loop-count g l = l.limit + 1 - vec_len l.all
