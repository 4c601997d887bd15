use Rattle.lifeguard_crew.specs.inner.Slots.{KeepsRow}
use Rattle.lifeguard_crew.proofs.turns.run_counted.Given as goal

abbrev pub invariant-loop : goal.invariant-loop
invariant-loop g l = KeepsRow g.P.Plan.planned g.W.TurnWorker.view l.monitor l.initial.row l.row
