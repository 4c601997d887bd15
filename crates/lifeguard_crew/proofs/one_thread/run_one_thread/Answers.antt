use Rattle.atomic_table.proofs.Lists.{at_map}
use Rattle.lifeguard_crew.proofs.Same.{finished}
use Rattle.lifeguard_crew.proofs.one_thread.run_one_thread.Goals as goal

pub end_all-requires-clause-ended : goal.end_all-requires-clause-ended
end_all-requires-clause-ended g c k w here =
    let view = g.W.TurnWorker.view in
    c.in_ok-workers.ensures.end k (view w) (at_map view c.in_ok-workers.workers.items k w here)

pub returns : goal.returns
returns g c =
    let view = g.W.TurnWorker.view in
    let us = c.in_ok-workers.workers.items in
    finished g.P.Plan.planned view g.met.W.TurnWorker.sound c.args.monitor.now c.args.workers.items us c.requires c.in_ok-workers.ensures.same
    c.end_all.result (λ k w here. c.in_ok-workers.ensures.end k (view w) (at_map view us k w here)) c.end_all.ensures
