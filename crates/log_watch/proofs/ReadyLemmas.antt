-- The workers of a log, once each was fed its whole stream, may be run, and what they find is of the log.
use Rattle.std.proofs.Common.{◌≡◌, ℕ, ◌<◌, ◌^◌, ◌≤◌, true, List, length, slice_index, refl, sym, ap, ◌∙◌, subst, arith}
use mathlib.Core.Option.{some}
use lib.ListN.{get_elem?}
use Rattle.atomic_table.specs.Seated.{TableId}
use Rattle.pl_event.specs.declared.log.Log.{Log}
use Rattle.lifeguard.specs.Rules.{Rules}
use Rattle.lifeguard.specs.Ranges.{reports_on}
use Rattle.order_core.specs.declared.course.Course.{Course}
use Rattle.order_core.specs.Course.{Planned, course, course_of, length_of}
use Rattle.guard_table.specs.declared.seats.Monitor.{Monitor}
use Rattle.guard_table.specs.Seats.{AreLastWords, plan_of}
use Rattle.guard_table.specs.Views.{first_view, fresh_view}
use Rattle.log_plan.specs.Plans.{AreFinalWords, plan_of as plan_under}
use Rattle.turn_worker.specs.declared.worker.HartResult.{HartResult}
use Rattle.turn_worker.specs.Results.{IsResult, checks_of}
use Rattle.turn_worker.specs.Workers.{WorkerView, size, stream_of}
use Rattle.lifeguard_crew.specs.Drivers.{IsReadyCrew}
use Rattle.lifeguard_crew.proofs.Same.{at_place}
use Rattle.lifeguard_worker.specs.Workers.{first_worker}
use Rattle.worker_laws.specs.Folds.{misses_at}
use Rattle.worker_laws.specs.LogRuns.{log_run}
use Rattle.log_watch.specs.Crews.{AreFirst, AreUnder, table_id_of}
use Rattle.log_watch.specs.Feeding.{AreFedWhole}
use Rattle.lifeguard.specs.Plain.{final_state}
use Rattle.log_watch.specs.Watched.{IsOfHart, misses_of}
use Rattle.log_watch.proofs.FeedingLemmas.{place_low}

-- a worker that was fed the whole stream of its hart
abbrev whole : Rules → TableId → Course → ℕ → WorkerView
whole rules table c k = record (first_worker rules table (fresh_view k (first_view c))) { fed = stream_of (first_worker rules table (fresh_view k (first_view c))); ended = true }

module _ {W P : Type 0} (view : W → WorkerView) (planned : P → Planned) (m : Monitor P) (rules : Rules) (log : Log) (plan : planned (plan_of m) ≡ plan_under rules log)
    (first ws : List W) (firsts : AreFirst view rules (table_id_of m) (course planned (plan_of m)) first) (fed : AreFedWhole view first ws) where
  is : (k : ℕ) (w : W) → get_elem? ws k ≡ some w → view w ≡ whole rules (table_id_of m) (course planned (plan_of m)) k
  is k w at =
      let f = at_place first k (let s : length ws ≡ length first = fed.size in let l : k < length ws = place_low ws k w at in omega arith) in
      fed.each k f.0 w f.1 at ∙ ap (λ (v : WorkerView). record v { fed = stream_of v; ended = true }) (firsts.each k f.0 f.1)

  pub crew_ready : IsReadyCrew planned view m ws
  crew_ready = record {
    crew = record {
      size = fed.size ∙ firsts.harts;
      course = λ k w at. ap (λ (v : WorkerView). v.seat.course) (is k w at);
      hart = λ k w at. ap (λ (v : WorkerView). v.seat.hart) (is k w at);
    };
    ready = λ k w at. record {
      at = (ap (λ (v : WorkerView). v.table) (is k w at), ap (λ (v : WorkerView). v.seat.course) (is k w at));
      plan = plan ∙ ((λ d. plan_under rules (sym plan d).log) ∙ sym (ap (λ (v : WorkerView). v.plan) (is k w at)));
      ended = ap (λ (v : WorkerView). v.ended) (is k w at);
    };
  }

  pub crew_under : AreUnder view rules log ws
  crew_under k w at = (
    ap (λ (v : WorkerView). v.rules) (is k w at),
    ap (λ (v : WorkerView). v.seat.course.log) (is k w at) ∙ ap (λ (p : Planned). p.log) plan,
    ap (λ (v : WorkerView). v.seat.hart) (is k w at),
    ap (λ (v : WorkerView). v.misses (size v)) (is k w at) ∙ (λ d. misses_at (log_run rules (plan d).log) k (length_of (course_of (plan d)) k)),
  )

-- what a worker found is of its hart
pub of_hart : (v : WorkerView) (r : HartResult) (rules : Rules) (log : Log) (h : ℕ) → IsResult v r → v.rules ≡ rules → v.seat.course.log ≡ log → v.seat.hart ≡ h
    → v.misses (size v) ≡ misses_of rules log h → IsOfHart rules log h r
of_hart v r rules log h found same_rules same_log same_hart misses = record {
  hart = found.hart ∙ same_hart;
  reports = found.reports ∙ (λ d. reports_on (same_hart d) (final_state (same_rules d) (same_log d)).reports);
  masks = λ x low. found.masks x low ∙ (λ d. (final_state (same_rules d) (same_log d)).masks (same_hart d) x);
  checks = found.checks ∙ (λ d. checks_of (same_rules d) (same_hart d) (same_log d).lines);
  misses = found.misses ∙ misses;
}

-- the words of a closed table are final
pub final : (c d : Course) → c ≡ d → (words : List ℕ) → AreLastWords c words → ((i : ℕ) → i < length words → slice_index words i < 2 ^ 64) → AreFinalWords d (slice_index words)
final c d same words last small = subst (λ (z : Course). AreFinalWords z (slice_index words)) same (record {
  small = λ w from low. small w (let s : length words ≡ length c.opening = last.size in omega arith);
  lanes = last.lanes;
})
