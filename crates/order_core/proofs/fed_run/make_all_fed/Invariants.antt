use Rattle.std.proofs.Common.{take}
use Rattle.order_core.specs.Course.{course}
use Rattle.order_core.specs.FedCore.{IsFedReached}
use Rattle.order_core.specs.inner.KeptFed.{fed_now, FitsFed}
use Rattle.order_core.proofs.fed_run.make_all_fed.Given as goal

abbrev pub invariant-loop-at : goal.invariant-loop-at
invariant-loop-at g l =
    let c = course g.P.Plan.planned l.plan in
    FitsFed c l.state × IsFedReached c (take l.at l.steps) (fed_now l.state)
