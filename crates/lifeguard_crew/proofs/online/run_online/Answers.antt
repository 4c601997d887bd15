use Rattle.lifeguard_crew.proofs.Led.{found_same}
use Rattle.lifeguard_crew.proofs.online.run_online.Goals as goal

pub returns-clause-finished : goal.returns-clause-finished
returns-clause-finished g c =
    found_same g.P.Plan.planned g.W.TurnWorker.view c.args.monitor.now c.args.workers.items c.in_ok-ready.ready.items c.in_ok-finished.finished
    c.in_ok-ready.ensures.same c.in_ok-finished.ensures
