use Rattle.std.proofs.Common.{◌≡◌, ℕ, List, length, map, subst, arith}
use Rattle.std.proofs.lemmas.List.{length-map}
use Rattle.order_core.specs.Course.{course}
use Rattle.guard_table.specs.Seats.{plan_of}
use Rattle.turn_worker.specs.Workers.{WorkerView}
use Rattle.lifeguard_crew.specs.declared.round_end.RoundEnd.TheVariants.{Waited, Ended}
use Rattle.lifeguard_crew.specs.inner.Rounds.{IsRound, AreSame}
use Rattle.lifeguard_crew.proofs.Same.{still_ready, same_then}
use Rattle.lifeguard_crew.proofs.Heard.{taught_same}
use Rattle.lifeguard_crew.proofs.Advances.{advanced, all_ended}
use Rattle.lifeguard_crew.proofs.one_thread.advance.Goals as goal

pub hear_all-requires : goal.hear_all-requires
hear_all-requires g c =
    still_ready g.P.Plan.planned g.W.TurnWorker.view c.args.monitor.now c.args.workers.now c.round.new.workers c.requires c.in_ok-round.ensures.same

pub round-requires-in-Waited : goal.round-requires-in-Waited
round-requires-in-Waited g c =
    let view = g.W.TurnWorker.view in
    let n = c.hear_all.ensures in
    let vs = map view c.round.new.workers in
    let ws = map view c.hear_all.new.workers in
    let same = same_then (map view c.args.workers.now) vs ws c.in_ok-round.ensures.same (taught_same vs ws n.size n.same) in
    still_ready g.P.Plan.planned view c.args.monitor.now c.args.workers.now c.hear_all.new.workers c.requires same

pub returns-in-Ended : goal.returns-in-Ended
returns-in-Ended g c =
    let view = g.W.TurnWorker.view in
    let us : List WorkerView = map view c.args.workers.now in
    let vs : List WorkerView = map view c.round.new.workers in
    let n : ℕ = length c.args.workers.now in
    let long : length us ≡ n = length-map c.args.workers.now view in
    let first : IsRound n us vs Ended = subst (IsRound n us vs) c.in-Ended.is c.in_ok-round.ensures in
    all_ended n us us vs (omega arith) first.same first

pub returns-in-Ended-2 : goal.returns-in-Ended-2
returns-in-Ended-2 g c =
    let view = g.W.TurnWorker.view in
    let us : List WorkerView = map view c.args.workers.now in
    let vs : List WorkerView = map view c.round.new.workers in
    let ws : List WorkerView = map view c.hear_all.new.workers in
    let xs : List WorkerView = map view c.round-in-Waited.new.workers in
    let n : ℕ = length c.hear_all.new.workers in
    let long : length ws ≡ n = length-map c.hear_all.new.workers view in
    let notes = c.hear_all.ensures in
    let last : IsRound n ws xs Ended = subst (IsRound n ws xs) c.in-Ended-2.is c.in_ok-round-in-Waited.ensures in
    let same : AreSame us ws = same_then us vs ws c.in_ok-round.ensures.same (taught_same vs ws notes.size notes.same) in
    all_ended n us ws xs (omega arith) (same_then us ws xs same last.same) last

pub returns-in_default : goal.returns-in_default
returns-in_default g c =
    let view = g.W.TurnWorker.view in
    let us : List WorkerView = map view c.args.workers.now in
    let vs : List WorkerView = map view c.round.new.workers in
    let ws : List WorkerView = map view c.hear_all.new.workers in
    let xs : List WorkerView = map view c.round-in-Waited.new.workers in
    let n0 : length us ≡ length c.args.workers.now = length-map c.args.workers.now view in
    let n1 : length vs ≡ length c.round.new.workers = length-map c.round.new.workers view in
    let n2 : length ws ≡ length c.hear_all.new.workers = length-map c.hear_all.new.workers view in
    let n3 : length xs ≡ length c.round-in-Waited.new.workers = length-map c.round-in-Waited.new.workers view in
    let notes = c.hear_all.ensures in
    let first : IsRound (length c.args.workers.now) us vs Waited = subst (IsRound (length c.args.workers.now) us vs) c.in-Waited.is c.in_ok-round.ensures in
    let last = c.in_ok-round-in-Waited.ensures in
    let same : AreSame us ws = same_then us vs ws first.same (taught_same vs ws notes.size notes.same) in
    let all : AreSame us xs = same_then us ws xs same last.same in
    let m = c.args.monitor.now in
    let ready = still_ready g.P.Plan.planned view m c.args.workers.now c.round-in-Waited.new.workers c.requires all in
    let sizes : (length vs ≡ length us) × (length ws ≡ length vs) × (length xs ≡ length ws) = (first.same.size, notes.size, last.same.size) in
    advanced view g.met.W.TurnWorker.sound (course g.P.Plan.planned (plan_of m)) us vs ws c.round-in-Waited.new.workers
    (length c.args.workers.now) (length c.round.new.workers) (length c.hear_all.new.workers) first notes (omega arith) (omega (arith, sizes.0)) (omega (arith, sizes.2))
    ready.crew (λ k w here. (ready.ready k w here).ended) all c.in_ok-round-in-Waited.field-0 last c.in_default.not-Ended
