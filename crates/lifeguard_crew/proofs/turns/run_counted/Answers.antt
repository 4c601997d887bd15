use Rattle.lifeguard_crew.specs.inner.Slots.{Fits, MayTurn}
use Rattle.lifeguard_crew.proofs.SlotLemmas.{rows_then}
use Rattle.lifeguard_crew.proofs.turns.run_counted.Goals as goal

pub returns-in-Ok-Ended-clause-keeps : goal.returns-in-Ok-Ended-clause-keeps
returns-in-Ok-Ended-clause-keeps g c on =
    rows_then (MayTurn g.P.Plan.planned g.W.TurnWorker.view c.args.monitor.now) (Fits g.P.Plan.planned g.W.TurnWorker.view c.args.monitor.now) c.args.row.now c.loop.row c.turn_all.new.row c.loop.invariant c.in-Ok-Ended.ensures.keeps

pub loop-preserved-in-Ok-Moved : goal.loop-preserved-in-Ok-Moved
loop-preserved-in-Ok-Moved g c =
    rows_then (MayTurn g.P.Plan.planned g.W.TurnWorker.view c.args.monitor.now) (Fits g.P.Plan.planned g.W.TurnWorker.view c.args.monitor.now) c.args.row.now c.loop.row c.turn_all.new.row c.loop.invariant c.in-Ok-Moved.ensures.keeps

pub loop-preserved : goal.loop-preserved
loop-preserved g c =
    rows_then (MayTurn g.P.Plan.planned g.W.TurnWorker.view c.args.monitor.now) (Fits g.P.Plan.planned g.W.TurnWorker.view c.args.monitor.now) c.args.row.now c.loop.row c.turn_all.new.row c.loop.invariant c.in-Ok-Waited.ensures.keeps
