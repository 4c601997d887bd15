use Rattle.std.proofs.Common.{◌≡◌, ℕ, ◌+◌, ◌-◌, ◌≤◌, length, sym, ap, ◌∙◌, subst, arith}
use Rattle.std.specs.Prelude.{vec_capacity, vec_len}
use Rattle.guard_table.specs.declared.view.View.{View}
use Rattle.guard_table.specs.Seats.{seat_view}
use Rattle.worker_laws.specs.Runs.{Run, before}
use Rattle.lifeguard.specs.Plain.{reports_of}
use Rattle.lifeguard.proofs.ReportLemmas.{reports_few}
use Rattle.worker_records.specs.declared.state.State.{State}
use Rattle.worker_records.specs.Accesses.{HasWritten}
use Rattle.worker_records.specs.Places.{run_at}
use Rattle.worker_records.specs.Reports.{all_reports}
use Rattle.worker_records.specs.States.{IsMade, IsNext, spare}
use Rattle.worker_records.proofs.CountLemmas.{size_small}
use Rattle.worker_records.proofs.EventLemmas.{event_kept, reports_are}
use Rattle.worker_records.proofs.FieldLemmas.{valid_fields}
use Rattle.worker_records.proofs.MadeLemmas.{still_next}
use Rattle.worker_records.proofs.state.State.take_event.Goals as goal

pub marked-marked-requires-clause-kept : goal.marked-marked-requires-clause-kept
marked-marked-requires-clause-kept g c = record { run = c.requires.next.ready.run; kept = c.requires.next.ready.kept }

pub marked-marked-requires-clause-valid : goal.marked-marked-requires-clause-valid
marked-marked-requires-clause-valid g c =
    let v = seat_view c.args.seat.now in
    valid_fields (run_at (g.L.Lifeguard.rules c.args.guard) v) c.requires.next.ready.run v.hart (c.args.self.now.taken + 1) c.args.kind c.requires.next.is

pub make-found-requires-clause-next : goal.make-found-requires-clause-next
make-found-requires-clause-next g c =
    let rules = g.L.Lifeguard.rules c.args.guard in
    let v = seat_view c.args.seat.now in
    let s = c.args.self.now in
    subst (λ (z : View). IsNext rules z c.marked-marked.new.self c.args.kind) (sym c.marked-marked.ensures.view)
    (still_next rules v s c.marked-marked.new.self c.args.kind c.requires.next c.marked-marked.ensures.kept (ap (λ (z : State). z.taken) c.marked-marked.ensures.others))

pub tell_all-requires : goal.tell_all-requires
tell_all-requires g c =
    let rules = g.L.Lifeguard.rules c.args.guard in
    let v = seat_view c.args.seat.now in
    let s = c.args.self.now in
    let p : Run = run_at rules v in
    let s1 : State = c.marked-marked.new.self in
    let s2 : State = c.make-found.new.self in
    let w : View = seat_view c.make-found.new.seat in
    let written : HasWritten v w = subst (λ (z : View). HasWritten z w) c.marked-marked.ensures.view c.make-found.ensures.view in
    let made : IsMade rules v w s1 s2 c.args.kind c.make-found.result = subst (λ (z : View). IsMade rules z w s1 s2 c.args.kind c.make-found.result) c.marked-marked.ensures.view c.make-found.ensures.made in
    let reports1 = ap (λ (z : State). z.reports) c.marked-marked.ensures.others in
    let e : spare s2 ≡ spare s = ap (λ (z : _). vec_capacity z - vec_len z) (made.reports ∙ reports1) in
    let f = reports_are rules v w written c.requires.next.ready.run s s1 s2 s2 c.args.kind c.make-found.result c.args.at c.marked-marked.result c.requires.hart c.requires.next.ready.kept.counted.reports (ap (λ (z : State). z.taken) c.marked-marked.ensures.others) reports1 made c.marked-marked.ensures.found c.requires.told in
    let few : length (reports_of rules c.args.at c.args.kind (before p v.hart (s.taken + 1)).state) ≤ 3 = reports_few rules c.args.at c.args.kind (before p v.hart (s.taken + 1)).state in
    let some : length (all_reports rules c.args.at c.args.kind c.marked-marked.result c.make-found.result) ≤ 3 = subst (λ (z : _). length z ≤ 3) (sym f) few in
    let room : 3 ≤ spare s = c.requires.room in
    subst (λ (n : ℕ). length (all_reports rules c.args.at c.args.kind c.marked-marked.result c.make-found.result) ≤ n) (sym e) (omega (arith, some, room))

pub returns-clause-kept : goal.returns-clause-kept
returns-clause-kept g c =
    let rules = g.L.Lifeguard.rules c.args.guard in
    let v = seat_view c.args.seat.now in
    let s = c.args.self.now in
    let s1 : State = c.marked-marked.new.self in
    let s2 : State = c.make-found.new.self in
    let w : View = seat_view c.make-found.new.seat in
    let written : HasWritten v w = subst (λ (z : View). HasWritten z w) c.marked-marked.ensures.view c.make-found.ensures.view in
    let made : IsMade rules v w s1 s2 c.args.kind c.make-found.result = subst (λ (z : View). IsMade rules z w s1 s2 c.args.kind c.make-found.result) c.marked-marked.ensures.view c.make-found.ensures.made in
    event_kept rules v w written c.requires.next.ready.run s s1 s2 c.tell_all.new.self c.args.kind c.make-found.result c.args.at c.marked-marked.result c.requires.hart c.requires.next.ready.kept.counted.reports (ap (λ (z : State). z.taken) c.marked-marked.ensures.others) (ap (λ (z : State). z.reports) c.marked-marked.ensures.others) made c.marked-marked.ensures.found c.requires.told
    c.tell_all.ensures.reports c.tell_all.ensures.others

pub overflow_add-self : goal.overflow_add-self
overflow_add-self g c =
    let v = seat_view c.args.seat.now in
    let p : Run = run_at (g.L.Lifeguard.rules c.args.guard) v in
    let a = size_small p c.requires.next.ready.run v.hart in
    let b = c.requires.next.ready.next.within in
    let e = ap (λ (z : State). z.taken) c.tell_all.ensures.others in
    let f = c.make-found.ensures.made.taken in
    let h = ap (λ (z : State). z.taken) c.marked-marked.ensures.others in
    omega (arith, a, b, e, f, h)
