use Rattle.std.proofs.Common.{◌∙◌, sym}
use Rattle.order_core.specs.declared.course.Course.{Course}
use Rattle.order_core.specs.Course.{course}
use Rattle.order_core.proofs.KnownLaws.{line_hart_low}
use Rattle.order_core.proofs.fed_moves.is_waiting.Goals as goal

pub bounds-state-hart : goal.bounds-state-hart
bounds-state-hart g c =
    let plan = c.args.plan.now in
    let k : Course = course g.P.Plan.planned plan in
    line_hart_low k (g.met.P.Plan.lawful plan) c.args.state.now.produced c.in-Some.hart (sym c.line_hart.ensures ∙ c.in-Some.is)
