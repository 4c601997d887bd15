use Rattle.std.proofs.Common.{◌≡◌, ◌<◌, ◌≤◌, length, ◌∙◌, arith}
use Rattle.pl_event.proofs.Places.{before_most}
use Rattle.order_core.specs.declared.course.Course.{Course}
use Rattle.order_core.specs.Course.{course, length_of}
use Rattle.order_core.proofs.Known.{Known, known}
use Rattle.order_core.proofs.Walks.{op_short, further, no_write, write_there}
use Rattle.order_core.proofs.seek.seek.Goals as goal

pub returns-then-is_write-clause-there : goal.returns-then-is_write-clause-there
returns-then-is_write-clause-there g c low =
    let plan = c.args.plan.now in
    let k : Course = course g.P.Plan.planned plan in
    let is : Known k = known k (g.met.P.Plan.lawful plan) in
    write_there (g.P.Plan.planned plan) is c.args.hart c.loop-at.at.number c.loop-at.at.op c.loop-at.invariant.0 low c.op-found.result c.is_write.result c.op-found.ensures c.is_write.ensures c.if-is_write.true

pub next_place-at-requires-clause-number : goal.next_place-at-requires-clause-number
next_place-at-requires-clause-number g c =
    let plan = c.args.plan.now in
    let lines = ((g.P.Plan.planned plan).log).lines in
    let k : Course = course g.P.Plan.planned plan in
    let most : length_of k c.args.hart ≤ length lines = before_most lines c.args.hart (length lines) in
    let few : length lines < 4294967295 = (known k (g.met.P.Plan.lawful plan)).few in
    let len : c.len-len.result ≡ length_of k c.args.hart = c.len-len.ensures in
    omega arith

pub next_place-at-requires-clause-op : goal.next_place-at-requires-clause-op
next_place-at-requires-clause-op g c =
    let plan = c.args.plan.now in
    let k : Course = course g.P.Plan.planned plan in
    let is : Known k = known k (g.met.P.Plan.lawful plan) in
    let len : c.len-len.result ≡ length_of k c.args.hart = c.len-len.ensures in
    op_short (g.P.Plan.planned plan) is c.args.hart c.loop-at.at.number c.loop-at.at.op c.loop-at.invariant.0 (omega arith) c.op-found.result c.op-found.ensures

pub loop-at-preserved : goal.loop-at-preserved
loop-at-preserved g c =
    let plan = c.args.plan.now in
    let k : Course = course g.P.Plan.planned plan in
    let is : Known k = known k (g.met.P.Plan.lawful plan) in
    let len : c.len-len.result ≡ length_of k c.args.hart = c.len-len.ensures in
    let low : c.loop-at.at.number ≤ length_of k c.args.hart = omega arith in
    let small : c.loop-at.at.op ≤ 4294967295 = omega arith in
    let t = further (g.P.Plan.planned plan) is c.args.hart c.loop-at.at.number c.loop-at.at.op c.loop-at.invariant.0 low c.op-found.result c.next_place-at.result small c.op-found.ensures c.next_place-at.ensures in
    let n = no_write (g.P.Plan.planned plan) is c.args.hart c.loop-at.at.number c.loop-at.at.op c.loop-at.invariant.0 low c.op-found.result c.next_place-at.result c.is_write.result small c.op-found.ensures c.is_write.ensures c.if-is_write.false c.next_place-at.ensures in
    (t.0, t.1, n ∙ c.loop-at.invariant.2)
