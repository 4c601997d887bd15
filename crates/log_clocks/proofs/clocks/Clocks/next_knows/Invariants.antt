use Rattle.std.proofs.Common.{◌≡◌, ℕ, ◌<◌, ◌≤◌, ◌⊎◌, Some, None, slice_index_or}
use Rattle.log_clocks.specs.Clocks.{time, known}
use Rattle.log_clocks.proofs.clocks.Clocks.next_knows.Given as goal

abbrev pub invariant-loop-w : goal.invariant-loop-w
invariant-loop-w l = (x k : ℕ) → x < l.w → slice_index_or l.needs x None ≡ Some k → (k ≤ time l.last x) ⊎ (known l.self x k l.u < l.number)
