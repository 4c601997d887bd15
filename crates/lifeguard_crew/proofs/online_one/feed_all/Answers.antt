use Rattle.lifeguard_crew.specs.inner.Online.{IsSameWorker, IsTold}
use Rattle.lifeguard_crew.proofs.Led.{led_then, same_told, whole_ready}
use Rattle.lifeguard_crew.proofs.online_one.feed_all.Goals as goal

pub returns-clause-ready : goal.returns-clause-ready
returns-clause-ready g c =
    whole_ready g.P.Plan.planned g.W.TurnWorker.view c.args.monitor.now c.args.workers.now c.feed_rest.new.workers c.end_streams.new.workers
    c.requires.crew c.in_ok-feed_rest.ensures.same c.end_streams.ensures

pub returns-clause-same : goal.returns-clause-same
returns-clause-same g c =
    led_then g.W.TurnWorker.view IsSameWorker IsTold IsSameWorker c.args.workers.now c.feed_rest.new.workers c.end_streams.new.workers
    same_told c.in_ok-feed_rest.ensures.same c.end_streams.ensures
