use Rattle.std.proofs.Common.{ℕ, ◌≤◌, sym, ap, ◌∙◌, subst, arith}
use Rattle.std.specs.Prelude.{slice_index}
use Rattle.order_core.specs.Core.{IsPassed}
use Rattle.order_core.specs.Course.{Planned, course_of}
use Rattle.order_core.proofs.Known.{known}
use Rattle.guard_table.specs.declared.view.View.{View}
use Rattle.guard_table.specs.Seats.{plan_of, seat_view}
use Rattle.guard_table.specs.Views.{advertised}
use Rattle.worker_laws.specs.Runs.{Run}
use Rattle.worker_laws.proofs.Turning.{kept_advertised, may_advertise}
use Rattle.worker_records.specs.declared.state.State.{State}
use Rattle.worker_records.specs.Places.{run_at}
use Rattle.worker_records.specs.States.{IsKept, parts_of}
use Rattle.worker_records.proofs.state.State.settle.Goals as goal

pub advertise-requires-clause-rises : goal.advertise-requires-clause-rises
advertise-requires-clause-rises g c =
    let told = c.resolve_all.ensures.kept.kept.taken.told in
    subst (λ (z : View). z.progress ≤ c.from.result) (sym c.resolve_all.ensures.view) (omega (arith, told, c.from.ensures))

pub advertise-requires-clause-passed : goal.advertise-requires-clause-passed
advertise-requires-clause-passed g c =
    let rules = g.L.Lifeguard.rules c.args.guard in
    let v = seat_view c.args.seat.now in
    let s1 : State = c.resolve_all.new.self in
    let p : Run = run_at rules v in
    let kept = c.resolve_all.ensures.kept in
    subst (λ (z : View). IsPassed (course_of (g.P.Plan.planned (plan_of c.args.monitor.now))) z.written (slice_index z.seen) z.hart c.from.result) (sym c.resolve_all.ensures.view)
    (subst (λ (z : Planned). IsPassed (course_of z) v.written (slice_index v.seen) v.hart c.from.result) (sym c.requires.at.plan)
    (may_advertise p kept.run (known (course_of p.plan) kept.run.lawful) v.hart v s1.taken (parts_of s1) kept.kept c.from.result (let e = c.from.ensures in omega (arith, e))))

pub returns-clause-view : goal.returns-clause-view
returns-clause-view g c =
    let same = ap (λ (z : State). z.taken) c.resolve_all.ensures.others in
    c.advertise.ensures.view ∙ (ap (advertised c.from.result) c.resolve_all.ensures.view
    ∙ ap (λ (n : ℕ). advertised n (seat_view c.args.seat.now)) (c.from.ensures ∙ same))

pub returns-clause-kept : goal.returns-clause-kept
returns-clause-kept g c =
    let rules = g.L.Lifeguard.rules c.args.guard in
    let v = seat_view c.args.seat.now in
    let s1 : State = c.resolve_all.new.self in
    let p : Run = run_at rules v in
    let kept = c.resolve_all.ensures.kept in
    subst (λ (z : View). IsKept rules z s1) (sym (c.advertise.ensures.view ∙ ap (advertised c.from.result) c.resolve_all.ensures.view))
    (record {
      run = kept.run;
      kept = kept_advertised p kept.run (known (course_of p.plan) kept.run.lawful) v.hart v s1.taken (parts_of s1) kept.kept c.from.result (let e = c.from.ensures in omega (arith, e)) (let e = c.from.ensures in omega (arith, e))
          (λ r from e. absurd (c.resolve_all.ensures.nothing r from e));
    })
