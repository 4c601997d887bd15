use Rattle.std.proofs.Common.{map}
use Rattle.lifeguard_crew.specs.inner.Rounds.{AreSame, left}
use Rattle.lifeguard_crew.proofs.one_thread.run_rounds.Given as goal

abbrev pub invariant-rounds : goal.invariant-rounds
invariant-rounds g l =
    let view = g.W.TurnWorker.view in
    AreSame (map view l.initial.workers) (map view l.workers)

abbrev pub decreases-rounds : goal.decreases-rounds
decreases-rounds g l = left (map g.W.TurnWorker.view l.workers)
