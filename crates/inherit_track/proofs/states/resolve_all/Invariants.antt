use Rattle.inherit_track.proofs.ResolveLemmas.{IsResolvedBut}
use Rattle.inherit_track.proofs.states.resolve_all.Given as goal

abbrev pub invariant-loop-left : goal.invariant-loop-left
invariant-loop-left l = IsResolvedBut l.left l.fn.from l.fn.mask l.fn.states l.states l.held

abbrev pub decreases-loop-left : goal.decreases-loop-left
decreases-loop-left l = l.left
