use Rattle.std.proofs.Common.{map}
use Rattle.lifeguard_crew.specs.inner.Rounds.{HasHeard}
use Rattle.lifeguard_crew.proofs.one_thread.hear.Given as goal

abbrev pub invariant-loop-j : goal.invariant-loop-j
invariant-loop-j g l =
    let view = g.W.TurnWorker.view in
    HasHeard l.i l.j (map view l.initial.workers) (map view l.workers)
