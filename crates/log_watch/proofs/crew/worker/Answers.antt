use Rattle.std.proofs.Common.{◌≡◌, ◌∙◌}
use Rattle.lifeguard_worker.specs.Workers.{first_worker}
use Rattle.log_watch.proofs.crew.worker.Goals as goal

pub returns-clause-worker : goal.returns-clause-worker
returns-clause-worker g c =
    c.in_ok-new.ensures.worker ∙ (λ i. first_worker (g.L.Lifeguard.rules c.args.guard) (c.seat-seat.ensures.seat_of.0 i) (c.seat-seat.ensures.seat i))
