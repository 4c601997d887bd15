use Rattle.std.proofs.Common.{◌+◌, ℕ, List, map, set, get_or, sym, subst, arith}
use Rattle.atomic_table.proofs.Lists.{at_map}
use Rattle.turn_worker.specs.Workers.{WorkerView}
use Rattle.lifeguard_crew.specs.declared.round_end.RoundEnd.{RoundEnd}
use Rattle.lifeguard_crew.specs.inner.Rounds.{IsRound, both}
use Rattle.lifeguard_crew.proofs.Same.{still_ready}
use Rattle.ring_feed.proofs.Pairs.{at_get}
use Rattle.lifeguard_crew.proofs.Heard.{map_set}
use Rattle.lifeguard_crew.proofs.Rounds.{one_more}
use Rattle.lifeguard_crew.proofs.one_thread.round.Goals as goal

pub turn_one-requires : goal.turn_one-requires
turn_one-requires g c =
    let us = c.loop-i.workers in
    let ready = still_ready g.P.Plan.planned g.W.TurnWorker.view c.args.monitor.now c.args.workers.now us c.requires c.loop-i.invariant.same in
    ready.ready c.loop-i.i (get_or us c.loop-i.i c.index-workers-i.result) (at_get us c.loop-i.i c.index-workers-i.result (omega arith))

pub loop-i-preserved : goal.loop-i-preserved
loop-i-preserved g c =
    let view = g.W.TurnWorker.view in
    let us = c.loop-i.workers in
    let i : ℕ = c.loop-i.i in
    let old = get_or us i c.index-workers-i.result in
    let vs : List WorkerView = map view c.args.workers.now in
    let at = at_map view us i old (at_get us i c.index-workers-i.result (omega arith)) in
    let turn : RoundEnd = c.in_ok-turn_one.field-0 in
    let more = one_more vs (map view us) i c.loop-i.end c.loop-i.invariant (view old) (view c.turn_one.new.worker) at turn c.in_ok-turn_one.ensures in
    let listed = subst (λ z. IsRound (i + 1) vs z (both c.loop-i.end turn)) (sym (map_set view us i c.turn_one.new.worker)) more in
    subst (IsRound (i + 1) vs (map view (set us i c.turn_one.new.worker))) (sym c.and-end.ensures) listed
