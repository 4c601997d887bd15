use Rattle.std.proofs.Common.{◌≡◌, false}
use Rattle.log_clocks.specs.Clocks.{time, known}
use Rattle.log_clocks.specs.inner.Joins.{IsJoin, IsClosed}
use Rattle.log_clocks.proofs.clocks.Clocks.joined.Given as goal

abbrev pub invariant-loop-u : goal.invariant-loop-u
invariant-loop-u l = (IsClosed l.needs (known l.self) (time l.fn.clock) → IsJoin l.needs l.u (known l.self) (time l.fn.clock) (time l.joined)) × (l.is_raised ≡ false → l.joined ≡ l.fn.clock)
