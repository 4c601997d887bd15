use Rattle.lifeguard_crew.specs.inner.Online.{IsOfRun, IsTurned}
use Rattle.lifeguard_crew.proofs.Led.{every_led, led_then, run_turned, turned_then}
use Rattle.lifeguard_crew.proofs.online_one.turn_piece.Goals as goal

pub turn_each-requires : goal.turn_each-requires
turn_each-requires g c =
    let run = IsOfRun g.P.Plan.planned c.args.monitor.now in
    every_led g.W.TurnWorker.view run run IsTurned c.args.workers.now c.loop.workers (run_turned g.P.Plan.planned c.args.monitor.now) c.requires c.loop.invariant

pub returns-then-branch : goal.returns-then-branch
returns-then-branch g c =
    led_then g.W.TurnWorker.view IsTurned IsTurned IsTurned c.args.workers.now c.loop.workers c.turn_each.new.workers turned_then c.loop.invariant c.in_ok-turn_each.ensures

pub loop-preserved : goal.loop-preserved
loop-preserved g c =
    led_then g.W.TurnWorker.view IsTurned IsTurned IsTurned c.args.workers.now c.loop.workers c.turn_each.new.workers turned_then c.loop.invariant c.in_ok-turn_each.ensures
