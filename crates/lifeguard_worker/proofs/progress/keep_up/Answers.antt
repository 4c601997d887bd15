use Rattle.std.proofs.Common.{◌+◌, ◌<◌, ◌≤◌, sym, subst, arith}
use Rattle.std.specs.Prelude.{slice_index}
use Rattle.order_core.specs.Core.{IsPassed}
use Rattle.order_core.specs.Course.{Planned, course_of}
use Rattle.order_core.proofs.Known.{known}
use Rattle.guard_table.specs.declared.view.View.{View}
use Rattle.guard_table.specs.Seats.{seat_view}
use Rattle.inherit_track.specs.States.{state_in}
use Rattle.worker_laws.specs.Runs.{Run}
use Rattle.worker_laws.proofs.Turning.{kept_advertised, may_advertise}
use Rattle.worker_records.specs.Places.{run_at}
use Rattle.worker_records.specs.States.{IsKept, parts_of}
use Rattle.worker_records.proofs.RegisterLemmas.{held_there}
use Rattle.lifeguard_worker.proofs.progress.keep_up.Goals as goal

pub advertise-requires-clause-passed : goal.advertise-requires-clause-passed
advertise-requires-clause-passed g c =
    let v = seat_view c.args.seat.now in
    let s = c.args.state.now in
    let p : Run = run_at (g.L.Lifeguard.rules c.args.guard) v in
    let run = c.requires.kept.run in
    let low : c.min-upto.result ≤ s.taken = omega (arith, c.min-upto.ensures, c.from-taken.ensures) in
    subst (λ (z : Planned). IsPassed (course_of z) v.written (slice_index v.seen) v.hart c.min-upto.result) (sym c.requires.at.plan)
    (may_advertise p run (known (course_of p.plan) run.lawful) v.hart v s.taken (parts_of s) c.requires.kept.kept c.min-upto.result low)

pub returns-in-Some-clause-kept : goal.returns-in-Some-clause-kept
returns-in-Some-clause-kept g c =
    let rules = g.L.Lifeguard.rules c.args.guard in
    let v = seat_view c.args.seat.now in
    let s = c.args.state.now in
    let p : Run = run_at rules v in
    let run = c.requires.kept.run in
    let upto = c.min-upto.result in
    let far : s.taken + 1 < c.in-Some.number + 64 = omega (arith, c.if-taken-from.true, c.from-taken.ensures, c.from.ensures) in
    let late : 64 ≤ s.taken = omega (arith, c.if-taken-told.false, c.from-taken.ensures) in
    let low : upto ≤ s.taken = omega (arith, c.min-upto.ensures, c.from-taken.ensures) in
    let lag : s.taken ≤ upto + 64 = omega (arith, c.min-upto.ensures, c.from-taken.ensures, c.from-in-Some.ensures, far) in
    let below : upto + 1 ≤ c.in-Some.number = omega (arith, c.min-upto.ensures, c.from-in-Some.ensures, far, late) in
    subst (λ (z : View). IsKept rules z s) (sym c.advertise.ensures.view)
    (record {
      run = run;
      kept = kept_advertised p run (known (course_of p.plan) run.lawful) v.hart v s.taken (parts_of s) c.requires.kept.kept upto low lag
          (λ r from e. let h = held_there (state_in s.tracker) r from e in
          let least : c.in-Some.number ≤ from.number = c.in-Some.ensures.least.least r from h.1 in omega (arith, least, below));
    })
