use Rattle.std.proofs.Common.{◌≡◌, ◌<◌, ℕ, length, sym, ap, ◌∙◌, arith}
use Rattle.std.proofs.Math.Logic.{∥∥₁_map}
use Rattle.pl_event.specs.Runs.{IsRunLog}
use Rattle.order_core.specs.Course.{Planned, course_of}
use Rattle.log_plan.proofs.OpeningWords.{opening_length}
use Rattle.log_plan.proofs.PlanLemmas.{last_represents}
use Rattle.lifeguard_crew.proofs.Same.{at_place}
use Rattle.log_watch.proofs.FeedingLemmas.{place_low}
use Rattle.log_watch.proofs.ReadyLemmas.{final, of_hart}
use Rattle.log_watch.proofs.threaded.watch_on_threads.Goals as goal

pub returns : goal.returns
returns g c =
    let rules = g.L.Lifeguard.rules c.args.guard in
    let laws = g.met.L.Lifeguard g.world.𝓛 g.world.𝓜 g.world.𝓡 ((λ s x. x), (λ x. x), (λ x. x), λ x. x) in
    let log = c.args.log.now.log in
    let plan = c.in_ok-monitor.ensures.plan in
    let found = c.in_ok-results.ensures in
    let ready = c.in_ok-workers.ensures.ready in
    let last = c.in_ok-words.ensures.last in
    record {
      harts = found.results ∙ (ready.crew.size ∙ ap (λ (p : Planned). p.log.harts) plan);
      results = λ h r at.
          let low : h < length c.in_ok-results.field-0.results.items = place_low c.in_ok-results.field-0.results.items h r at in
          let same : length c.in_ok-results.field-0.results.items ≡ length c.in_ok-workers.workers.items = found.results in
          let w = at_place c.in_ok-workers.workers.items h (omega arith) in
          let under = c.in_ok-workers.ensures.rules h w.0 w.1 in
          of_hart _ r rules log h (found.result h w.0 r w.1 at) under.0 under.1 under.2 under.3;
      size = last.size ∙ (ap (λ (p : Planned). length p.opening) plan ∙ opening_length rules log.pages);
      bytes = ∥∥₁_map c.args.log.now.lawful (λ (run : IsRunLog log). last_represents rules (laws.lawful c.args.guard) log run _ (final _ _ (ap course_of plan) c.in_ok-words.words.items last c.in_ok-words.ensures.wide));
    }
