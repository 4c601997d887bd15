use Rattle.std.proofs.Common.{◌≡◌, ℕ, ◌≤◌, ◌∙◌, subst, arith}
use Rattle.std.specs.Prelude.{slice_index}
use Rattle.std.proofs.lemmas.List.{length-take-le}
use Rattle.order_core.specs.Course.{course_of, length_of}
use Rattle.order_core.proofs.Known.{known}
use Rattle.guard_table.specs.Seats.{seat_view}
use Rattle.inherit_track.specs.States.{state_in}
use Rattle.worker_laws.specs.Kept.{Kept}
use Rattle.worker_laws.specs.Runs.{Run}
use Rattle.worker_laws.proofs.Ending.{all_checks, end_masks, end_reports}
use Rattle.worker_records.specs.Places.{run_at}
use Rattle.worker_records.specs.States.{parts_of}
use Rattle.worker_records.proofs.RegisterLemmas.{there}
use Rattle.lifeguard_worker.specs.Workers.{stream_of}
use Rattle.lifeguard_worker.proofs.HeldLemmas.{nothing_held}
use Rattle.lifeguard_worker.proofs.MoveLemmas.{is_kept}
use Rattle.lifeguard_worker.proofs.turns.WorkerTurnWorker.end.Goals as goal

pub masks-requires : goal.masks-requires
masks-requires g c =
    let w = c.args.self in
    let told : w.state.taken ≤ (seat_view w.seat).progress = omega (arith, c.requires.used.told) in
    nothing_held (g.L.Lifeguard.rules w.guard) (seat_view w.seat) w.state w.is.kept told

pub returns-clause-result : goal.returns-clause-result
returns-clause-result g c =
    let w = c.args.self in
    let rules = g.L.Lifeguard.rules w.guard in
    let v = seat_view w.seat in
    let p : Run = run_at rules v in
    let run = (is_kept rules v w.state w.told w.before w.stream w.fed w.ended (g.met.L.Lifeguard.lawful w.guard) w.is).run in
    let all : w.state.taken ≡ length_of v.course v.hart = c.requires.used.all ∙ (length-take-le w.fed (stream_of v) w.is.within ∙ w.is.whole c.requires.ended) in
    let kept : Kept p v.hart v (length_of v.course v.hart) (parts_of w.state) = subst (λ (n : ℕ). Kept p v.hart v n (parts_of w.state)) all w.is.kept in
    record {
      hart = c.hart.ensures.hart;
      reports = end_reports p run (known (course_of p.plan) run.lawful) v.hart v (parts_of w.state) kept;
      masks = λ r lt. end_masks p run (known (course_of p.plan) run.lawful) v.hart v (parts_of w.state) kept r (slice_index c.masks.result r) lt (there (state_in w.state.tracker) r lt ∙ c.masks.ensures r lt);
      checks = kept.counted.checks ∙ all_checks p v.hart;
      misses = kept.counted.misses;
    }
