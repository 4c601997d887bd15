use Rattle.std.proofs.Common.{◌≡◌, ◌<◌, length, ap, ◌∙◌, arith}
use Rattle.order_core.specs.Course.{Planned, course_of}
use Rattle.guard_table.specs.Seats.{seat_view}
use Rattle.log_plan.proofs.OpeningWords.{opening_length}
use Rattle.log_plan.proofs.PlanLemmas.{last_represents}
use Rattle.lifeguard_crew.proofs.Same.{at_place}
use Rattle.lifeguard_worker.specs.declared.worker.Worker.{Worker}
use Rattle.lifeguard_worker.specs.Workers.{table_of, worker_view}
use Rattle.turn_worker.specs.Workers.{WorkerView}
use Rattle.log_watch.proofs.FeedingLemmas.{place_low}
use Rattle.log_watch.proofs.ReadyLemmas.{final, of_hart}
use Rattle.run_watch.proofs.Fresh.{crew_under}
use Rattle.run_watch.proofs.closing.closed.Goals as goal

pub returns : goal.returns
returns g c log of =
    let rules = g.L.Lifeguard.rules c.args.guard in
    let plan = c.requires.plan log of in
    let found = c.requires.ended.finished in
    let firsts = c.requires.ended.firsts in
    let last = c.in_ok-words.ensures.last in
    let run = ((c.log_laws.ensures.formed log).0 (c.recorded_runs.ensures.formed c.args.job.now log c.requires.valid of)).0 in
    let view : Worker g.row.L.Denot g.L.Lifeguard → WorkerView = λ w. worker_view (g.L.Lifeguard.rules w.guard) (table_of w.seat) (seat_view w.seat) w.state w.fed w.ended in
    record {
      harts = found.results ∙ (firsts.harts ∙ ap (λ (p : Planned). p.log.harts) plan);
      results = λ h r at.
          let low : h < length c.args.finished.results.items = place_low c.args.finished.results.items h r at in
          let same : length c.args.finished.results.items ≡ length c.requires.ended.workers = found.results in
          let w = at_place c.requires.ended.workers h (omega arith) in
          let under = crew_under view rules log _ _ plan c.requires.ended.workers firsts h w.0 w.1 in
          of_hart _ r rules log h (found.result h w.0 r w.1 at) under.0 under.1 under.2 under.3;
      size = last.size ∙ (ap (λ (p : Planned). length p.opening) plan ∙ opening_length rules log.pages);
      bytes = ∣ last_represents rules (g.met.L.Lifeguard.lawful c.args.guard) log run _ (final _ _ (ap course_of plan) c.in_ok-words.words.items last c.in_ok-words.ensures.wide) ∣₁;
    }
