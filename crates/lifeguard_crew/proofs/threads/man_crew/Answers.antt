use Rattle.order_core.specs.Course.{course}
use Rattle.guard_table.specs.Seats.{plan_of}
use Rattle.lifeguard_crew.proofs.Same.{few_harts}
use Rattle.lifeguard_crew.proofs.Finish.{few_slots}
use Rattle.lifeguard_crew.proofs.threads.man_crew.Goals as goal

pub returns-clause-few : goal.returns-clause-few
returns-clause-few g c =
    let few = few_harts (course g.P.Plan.planned (plan_of c.args._monitor.now)) (g.met.P.Plan.lawful (plan_of c.args._monitor.now)) in
    few_slots g.P.Plan.planned g.W.TurnWorker.view c.args._monitor.now c.args.workers.items c.requires few c.man.result c.man.ensures
