use Rattle.std.proofs.Common.{get_or, arith}
use Rattle.lifeguard_crew.specs.inner.Online.{IsOfRun, IsTurned}
use Rattle.ring_feed.proofs.Pairs.{at_get}
use Rattle.lifeguard_crew.proofs.Led.{all_led, as_it_was, one_led}
use Rattle.lifeguard_crew.proofs.online_one.turn_each.Goals as goal

pub turn_fed-requires : goal.turn_fed-requires
turn_fed-requires g c =
    let us = c.loop-i.workers in
    let w = get_or us c.loop-i.i c.index-workers-i.result in
    as_it_was g.W.TurnWorker.view (IsOfRun g.P.Plan.planned c.args.monitor.now) IsTurned c.loop-i.i c.args.workers.now us w c.requires c.loop-i.invariant
    (at_get us c.loop-i.i c.index-workers-i.result (omega arith))

pub loop-i-preserved : goal.loop-i-preserved
loop-i-preserved g c =
    let us = c.loop-i.workers in
    one_led g.W.TurnWorker.view IsTurned c.loop-i.i c.args.workers.now us (get_or us c.loop-i.i c.index-workers-i.result) c.turn_fed.new.worker
    c.loop-i.invariant (at_get us c.loop-i.i c.index-workers-i.result (omega arith)) c.in_ok-dry.ensures

pub returns : goal.returns
returns g c = all_led g.W.TurnWorker.view IsTurned c.loop-i.i c.args.workers.now c.loop-i.workers (omega arith) c.loop-i.invariant
