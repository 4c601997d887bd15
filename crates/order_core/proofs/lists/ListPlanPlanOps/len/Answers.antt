use Rattle.std.proofs.Common.{rules, ◌≡◌, ◌^◌, ◌<◌, ◌≤◌, length, List, Vec, Global, ap, ◌∙◌, arith}
use Rattle.pl_event.specs.Records.{records_before}
use Rattle.pl_event.proofs.Places.{before_most}
use Rattle.order_core.specs.declared.record_plan.RecordPlan.{RecordPlan}
use Rattle.order_core.specs.Course.{course_of}
use Rattle.order_core.specs.Lists.{stream_of, listed}
use Rattle.order_core.proofs.Known.{known}
use Rattle.order_core.proofs.lists.ListPlanPlanOps.len.Goals as goal

pub overflow_cast-result : goal.overflow_cast-result
overflow_cast-result c =
    let plan = c.args.self.now in
    let stream = ap (λ (z : List RecordPlan). length z) (c.stream.ensures ∙ ap (λ (z : List (Vec RecordPlan Global)). stream_of z c.args.hart) c.as_slice.ensures.value) in
    let same : length c.stream.result.now ≡ records_before c.args.hart plan.log.lines (length plan.log.lines) = stream ∙ plan.records c.args.hart c.requires in
    let most : records_before c.args.hart plan.log.lines (length plan.log.lines) ≤ length plan.log.lines = before_most plan.log.lines c.args.hart (length plan.log.lines) in
    let few : length plan.log.lines < 4294967295 = (known (course_of (listed plan.log plan.opening.items plan.streams.items)) plan.lawful).few in
    let small : length c.stream.result.now < 2 ^ 32 = omega arith in
    search rules
