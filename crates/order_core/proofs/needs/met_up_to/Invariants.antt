use Rattle.std.proofs.Common.{slice_index}
use Rattle.order_core.specs.Course.{course}
use Rattle.order_core.specs.Core.{IsMet}
use Rattle.order_core.proofs.needs.met_up_to.Given as goal

abbrev pub invariant-loop-number : goal.invariant-loop-number
invariant-loop-number g l = IsMet (course g.P.Plan.planned l.plan) (slice_index l.seen) l.hart l.number
