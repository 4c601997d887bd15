use Rattle.std.proofs.Common.{◌≡◌, ◌+◌, ◌<◌, ◌≤◌, ℕ, List, length, map, sym, subst, arith}
use Rattle.atomic_table.proofs.Lists.{at_map}
use Rattle.order_core.specs.declared.course.Course.{Course}
use Rattle.order_core.specs.Course.{course}
use Rattle.guard_table.specs.Seats.{plan_of}
use Rattle.turn_worker.specs.Workers.{WorkerView}
use Rattle.lifeguard_crew.specs.inner.Rounds.{HasHeard}
use Rattle.lifeguard_crew.proofs.Same.{at_place, still_ready, few_harts}
use Rattle.lifeguard_crew.proofs.Heard.{heard_more, heard_self, taught_same}
use Rattle.lifeguard_crew.proofs.one_thread.hear.Goals as goal
use Rattle.lifeguard_crew.proofs.one_thread.hear.Goals.{then-j-i, else-j-i}

pub learn_from-requires-clause-ready : goal.learn_from-requires-clause-ready
learn_from-requires-clause-ready g c =
    let view = g.W.TurnWorker.view in
    let vs = map view c.args.workers.now in
    let ws = map view c.loop-j.workers in
    let o = c.loop-j.invariant in
    still_ready g.P.Plan.planned view c.args.monitor.now c.args.workers.now c.loop-j.workers c.requires.ready (taught_same vs ws o.size o.same)

pub loop-j-preserved : goal.loop-j-preserved
loop-j-preserved g c =
    let view = g.W.TurnWorker.view in
    let vs : List WorkerView = map view c.args.workers.now in
    let us = c.loop-j.workers in
    let ws : List WorkerView = map view us in
    let i : ℕ = c.args.i in
    let j : ℕ = c.loop-j.j in
    let o = c.loop-j.invariant in
    elim c.if-j-i.branch [
      | then-j-i w ↦
          let k : Course = course g.P.Plan.planned (plan_of c.args.monitor.now) in
          let ready = still_ready g.P.Plan.planned view c.args.monitor.now c.args.workers.now us c.requires.ready (taught_same vs ws o.size o.same) in
          let few : k.log.harts ≤ 8 = few_harts k (g.met.P.Plan.lawful (plan_of c.args.monitor.now)) in
          let long : length us ≡ k.log.harts = ready.crew.size in
          let same : length us ≡ length c.args.workers.now = c.loop-j.auto.workers in
          let inside : i < length us = omega (arith, c.requires.i) in
          let low : j < length us = omega arith in
          let a = at_place us i inside in
          let b = at_place us j low in
          let at_i = at_map view us i a.0 a.1 in
          let at_j = at_map view us j b.0 b.1 in
          let is = w.learn_from.ensures (view a.0) (view b.0) at_i at_j in
          let heard = heard_more i j vs ws (view a.0) (view b.0) o w.if-j-i.true at_i at_j (g.met.W.TurnWorker.sound a.0).eight (omega arith) (ready.crew.hart j b.0 b.1) in
          subst (λ z. HasHeard i (j + 1) vs (map view z)) (sym w.workers-is) (subst (HasHeard i (j + 1) vs) (sym is) heard)
      | else-j-i w ↦
          let self : HasHeard i (i + 1) vs ws = heard_self i vs ws (subst (λ (z : ℕ). HasHeard i z vs ws) w.if-j-i.false o) in
          subst (λ z. HasHeard i (j + 1) vs (map view z)) (sym w.workers-is) (subst (λ (z : ℕ). HasHeard i (z + 1) vs ws) (sym w.if-j-i.false) self)
    ]
