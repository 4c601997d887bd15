use Rattle.std.proofs.Common.{take}
use Rattle.order_core.specs.Course.{course}
use Rattle.order_core.specs.Runs.{IsReached}
use Rattle.order_core.specs.States.{core_of}
use Rattle.order_core.specs.inner.Kept.{Fits}
use Rattle.order_core.proofs.run.make_all.Given as goal

abbrev pub invariant-loop-at : goal.invariant-loop-at
invariant-loop-at g l =
    let c = course g.P.Plan.planned l.plan in
    Fits c l.state × IsReached c (take l.at l.steps) (core_of l.state)
