use Rattle.std.proofs.Common.{List, true, map, subst}
use Rattle.turn_worker.specs.Workers.{WorkerView}
use Rattle.lifeguard_crew.specs.inner.Rounds.{IsAdvance}
use Rattle.lifeguard_crew.proofs.Same.{still_ready, same_then}
use Rattle.lifeguard_crew.proofs.one_thread.run_rounds.Goals as goal

pub advance-requires : goal.advance-requires
advance-requires g c =
    still_ready g.P.Plan.planned g.W.TurnWorker.view c.args.monitor.now c.args.workers.now c.rounds.workers c.requires.ready c.rounds.invariant

pub returns-then-branch : goal.returns-then-branch
returns-then-branch g c =
    let view = g.W.TurnWorker.view in
    let us : List WorkerView = map view c.args.workers.now in
    let vs : List WorkerView = map view c.rounds.workers in
    let ws : List WorkerView = map view c.advance.new.workers in
    let last : IsAdvance vs ws true = subst (IsAdvance vs ws) c.if-branch.true c.in_ok-advance.ensures in
    record { same = same_then us vs ws c.rounds.invariant last.same; end = last.end }

pub rounds-preserved : goal.rounds-preserved
rounds-preserved g c =
    let view = g.W.TurnWorker.view in
    same_then (map view c.args.workers.now) (map view c.rounds.workers) (map view c.advance.new.workers) c.rounds.invariant c.in_ok-advance.ensures.same
