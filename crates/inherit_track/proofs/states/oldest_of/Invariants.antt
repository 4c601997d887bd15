use Rattle.std.proofs.Common.{◌<◌, ◌^◌}
use Rattle.inherit_track.specs.inner.Oldest.{IsOldestBut}
use Rattle.inherit_track.proofs.states.oldest_of.Given as goal

abbrev pub invariant-loop-left : goal.invariant-loop-left
invariant-loop-left l = (l.left < 2 ^ 34) × IsOldestBut l.left l.states l.least

abbrev pub decreases-loop-left : goal.decreases-loop-left
decreases-loop-left l = l.left
