use Rattle.std.proofs.Common.{◌≡◌, ℕ, ◌+◌, sym, ap, ◌∙◌, subst, arith}
use Rattle.guard_table.specs.declared.view.View.{View}
use Rattle.guard_table.specs.Seats.{seat_view}
use Rattle.worker_laws.specs.Runs.{Run}
use Rattle.worker_laws.specs.Folds.{steps_at}
use Rattle.worker_records.specs.declared.state.State.{State}
use Rattle.worker_records.specs.Places.{run_at}
use Rattle.worker_records.specs.States.{IsKept}
use Rattle.worker_records.proofs.CountLemmas.{size_small}
use Rattle.worker_records.proofs.EventLemmas.{notice_kept, notice_steps}
use Rattle.worker_records.proofs.state.State.take_notice.Goals as goal

pub overflow_add-self : goal.overflow_add-self
overflow_add-self g c =
    let v = seat_view c.args.seat.now in
    let p : Run = run_at (g.L.Lifeguard.rules c.args.guard) v in
    let a = size_small p c.requires.ready.run v.hart in
    let b = c.requires.ready.next.within in
    let e = ap (λ (z : State). z.taken) c.resolve_all.ensures.others in
    omega (arith, a, b, e)

pub returns-clause-kept : goal.returns-clause-kept
returns-clause-kept g c =
    let rules = g.L.Lifeguard.rules c.args.guard in
    let v = seat_view c.args.seat.now in
    let s = c.args.self.now in
    let s1 : State = c.resolve_all.new.self in
    let n = c.requires.notice in
    let t : State = record s1 { taken = s1.taken + 1; look = c.flush.new.self; filter = c.flush-2.new.self } in
    subst (λ (z : View). IsKept rules z t) (sym c.resolve_all.ensures.view)
    (record {
      run = c.requires.ready.run;
      kept = notice_kept rules v s c.requires.ready n.0 n.1 n.2 n.3 n.4 n.5 s1 (ap (λ (z : State). z.taken) c.resolve_all.ensures.others) c.resolve_all.ensures.kept c.resolve_all.ensures.nothing c.flush.new.self c.flush-2.new.self c.flush.ensures.slots c.flush-2.ensures.slots;
    })

pub returns-clause-steps : goal.returns-clause-steps
returns-clause-steps g c =
    let rules = g.L.Lifeguard.rules c.args.guard in
    let v = seat_view c.args.seat.now in
    let s = c.args.self.now in
    let n = c.requires.notice in
    ap (λ (z : State). steps_at (run_at rules v) v.hart (z.taken + 1)) c.resolve_all.ensures.others
    ∙ notice_steps rules v s c.requires.ready n.0 n.1 n.2 n.3 n.4 n.5
