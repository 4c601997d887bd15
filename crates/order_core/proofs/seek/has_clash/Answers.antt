use Rattle.std.proofs.Common.{rules, ◌+◌, ◌<◌, ◌≤◌, IsTrue, length, arith}
use Rattle.pl_event.proofs.Places.{before_most}
use Rattle.order_core.specs.declared.course.Course.{Course}
use Rattle.order_core.specs.Course.{course, length_of}
use Rattle.order_core.specs.inner.Places.{place}
use Rattle.order_core.proofs.Known.{Known, known}
use Rattle.order_core.proofs.Walks.{op_short, further, clash_here, no_clash}
use Rattle.order_core.proofs.seek.has_clash.Goals as goal

pub returns-then-is_clashing : goal.returns-then-is_clashing
returns-then-is_clashing g c =
    let plan = c.args.plan.now in
    let k : Course = course g.P.Plan.planned plan in
    let is : Known k = known k (g.met.P.Plan.lawful plan) in
    let here : place c.loop-to.at.number c.loop-to.at.op < place c.args.to.number c.args.to.op = c.loop-to-test.ensures.0 (search rules) in
    let within : place c.args.to.number c.args.to.op ≤ place (length_of k c.args.hart + 1) 0 = c.requires.within in
    let low : c.loop-to.at.number ≤ length_of k c.args.hart = omega arith in
    let t : IsTrue c.is_clashing.result = (let f = c.if-is_clashing.true in search rules) in (
      (λ _. clash_here (g.P.Plan.planned plan) is c.args.hart c.loop-to.at.number c.loop-to.at.op c.loop-to.invariant.0 low c.args.read (place c.args.from.number c.args.from.op) c.op-found.result c.loop-to.invariant.2 (place c.args.to.number c.args.to.op) here c.op-found.ensures (c.is_clashing.ensures.0 t)),
      (λ _. search rules),
    )

pub next_place-at-requires-clause-number : goal.next_place-at-requires-clause-number
next_place-at-requires-clause-number g c =
    let plan = c.args.plan.now in
    let lines = ((g.P.Plan.planned plan).log).lines in
    let k : Course = course g.P.Plan.planned plan in
    let most : length_of k c.args.hart ≤ length lines = before_most lines c.args.hart (length lines) in
    let few : length lines < 4294967295 = (known k (g.met.P.Plan.lawful plan)).few in
    let here : place c.loop-to.at.number c.loop-to.at.op < place c.args.to.number c.args.to.op = c.loop-to-test.ensures.0 (search rules) in
    let within : place c.args.to.number c.args.to.op ≤ place (length_of k c.args.hart + 1) 0 = c.requires.within in
    omega arith

pub next_place-at-requires-clause-op : goal.next_place-at-requires-clause-op
next_place-at-requires-clause-op g c =
    let plan = c.args.plan.now in
    let k : Course = course g.P.Plan.planned plan in
    let is : Known k = known k (g.met.P.Plan.lawful plan) in
    let here : place c.loop-to.at.number c.loop-to.at.op < place c.args.to.number c.args.to.op = c.loop-to-test.ensures.0 (search rules) in
    let within : place c.args.to.number c.args.to.op ≤ place (length_of k c.args.hart + 1) 0 = c.requires.within in
    op_short (g.P.Plan.planned plan) is c.args.hart c.loop-to.at.number c.loop-to.at.op c.loop-to.invariant.0 (omega arith) c.op-found.result c.op-found.ensures

pub loop-to-smaller : goal.loop-to-smaller
loop-to-smaller g c =
    let plan = c.args.plan.now in
    let k : Course = course g.P.Plan.planned plan in
    let is : Known k = known k (g.met.P.Plan.lawful plan) in
    let here : place c.loop-to.at.number c.loop-to.at.op < place c.args.to.number c.args.to.op = c.loop-to-test.ensures.0 (search rules) in
    let within : place c.args.to.number c.args.to.op ≤ place (length_of k c.args.hart + 1) 0 = c.requires.within in
    let low : c.loop-to.at.number ≤ length_of k c.args.hart = omega arith in
    let small : c.loop-to.at.op ≤ 4294967295 = c.loop-to.invariant.1 in
    let t = further (g.P.Plan.planned plan) is c.args.hart c.loop-to.at.number c.loop-to.at.op c.loop-to.invariant.0 low c.op-found.result c.next_place-at.result small c.op-found.ensures c.next_place-at.ensures in
    let up : place c.loop-to.at.number c.loop-to.at.op < place c.next_place-at.result.number c.next_place-at.result.op = t.2 in
    omega arith

pub loop-to-preserved : goal.loop-to-preserved
loop-to-preserved g c =
    let plan = c.args.plan.now in
    let k : Course = course g.P.Plan.planned plan in
    let is : Known k = known k (g.met.P.Plan.lawful plan) in
    let here : place c.loop-to.at.number c.loop-to.at.op < place c.args.to.number c.args.to.op = c.loop-to-test.ensures.0 (search rules) in
    let within : place c.args.to.number c.args.to.op ≤ place (length_of k c.args.hart + 1) 0 = c.requires.within in
    let low : c.loop-to.at.number ≤ length_of k c.args.hart = omega arith in
    let small : c.loop-to.at.op ≤ 4294967295 = c.loop-to.invariant.1 in
    let t = further (g.P.Plan.planned plan) is c.args.hart c.loop-to.at.number c.loop-to.at.op c.loop-to.invariant.0 low c.op-found.result c.next_place-at.result small c.op-found.ensures c.next_place-at.ensures in
    let up : place c.loop-to.at.number c.loop-to.at.op < place c.next_place-at.result.number c.next_place-at.result.op = t.2 in
    let before : place c.args.from.number c.args.from.op ≤ place c.loop-to.at.number c.loop-to.at.op = c.loop-to.invariant.2 in (
      t.0,
      t.3,
      omega arith,
      no_clash (g.P.Plan.planned plan) is c.args.hart c.loop-to.at.number c.loop-to.at.op c.loop-to.invariant.0 low c.args.read (place c.args.from.number c.args.from.op) c.op-found.result c.next_place-at.result small c.op-found.ensures c.next_place-at.ensures
          (λ clash. let f : IsTrue c.is_clashing.result = c.is_clashing.ensures.1 clash in let s = c.if-is_clashing.false in search rules) c.loop-to.invariant.3,
    )
