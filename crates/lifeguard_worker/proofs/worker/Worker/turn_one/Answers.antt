use Rattle.std.proofs.Common.{◌≡◌, ℕ, ◌+◌, ◌<◌, List, Option, sym, ap, ◌∙◌, subst, arith}
use Rattle.pl_event.specs.Needs.{needs_of}
use Rattle.guard_table.specs.declared.view.View.{View}
use Rattle.guard_table.specs.Seats.{seat_view}
use Rattle.turn_worker.specs.declared.worker.Turn.{Turn}
use Rattle.turn_worker.specs.Turns.{IsAnswer}
use Rattle.worker_records.specs.declared.state.State.{State}
use Rattle.lifeguard_worker.specs.declared.rows.Entry.{Entry}
use Rattle.lifeguard_worker.specs.Rows.{Item, needs_in}
use Rattle.lifeguard_worker.specs.Workers.{table_of, worker_view}
use Rattle.lifeguard_worker.proofs.AnswerLemmas.{ready_then, waits_then}
use Rattle.lifeguard_worker.proofs.MoveLemmas.{Moves, fed_needs, fed_then, is_kept, looked_kept, moves_looked, moves_then, moves_told, next_fed, room_kept, worker_then}
use Rattle.lifeguard_worker.proofs.worker.Worker.turn_one.Goals as goal

abbrev needed : Entry → Option (List (Option ℕ)) → Item
needed entry needs = record { entry = entry; needs = needs_in needs }

pub tell_all-self-requires-clause-kept : goal.tell_all-self-requires-clause-kept
tell_all-self-requires-clause-kept g c =
    let w = c.args.self.now in
    is_kept (g.L.Lifeguard.rules w.guard) (seat_view w.seat) w.state w.told w.before w.stream w.fed w.ended (g.met.L.Lifeguard.lawful w.guard) w.is

pub short_of-requires-clause-needs : goal.short_of-requires-clause-needs
short_of-requires-clause-needs g c =
    let w = c.args.self.now in
    let v = seat_view w.seat in
    let ne : w.state.taken ≡ w.fed → ⊥ = c.if-taken-self.false in
    let t = next_fed (g.L.Lifeguard.rules w.guard) v w.state w.told w.before w.stream w.fed w.ended w.is (omega (arith, ne, w.is.few)) (needed c.needs-needs.ensures.0 c.needs-needs.result) c.needs-needs.ensures.1 in
    (w.state.taken + 1, fed_needs v.course.log.lines v.hart t.0 (w.state.taken + 1) t.1 t.2 (needed c.needs-needs.ensures.0 c.needs-needs.result) t.3)

pub tell_all-self-requires-in-Some-clause-kept : goal.tell_all-self-requires-in-Some-clause-kept
tell_all-self-requires-in-Some-clause-kept g c =
    let w = c.args.self.now in
    looked_kept (g.L.Lifeguard.rules w.guard) (seat_view w.seat) (seat_view c.short_of.new.seat) w.state w.told w.before w.stream w.fed w.ended (g.met.L.Lifeguard.lawful w.guard) w.is c.short_of.ensures.looked

pub returns-in-Some-clause-answer : goal.returns-in-Some-clause-answer
returns-in-Some-clause-answer g c =
    let w = c.args.self.now in
    let rules = g.L.Lifeguard.rules w.guard in
    let v = seat_view w.seat in
    let v1 : View = seat_view c.short_of.new.seat in
    let v2 : View = seat_view c.tell_all-self-in-Some.new.seat in
    let t : State = c.tell_all-self-in-Some.new.state in
    let ne : w.state.taken ≡ w.fed → ⊥ = c.if-taken-self.false in
    let left : w.state.taken < w.fed = omega (arith, ne, w.is.few) in
    let fed = next_fed rules v w.state w.told w.before w.stream w.fed w.ended w.is left (needed c.needs-needs.ensures.0 c.needs-needs.result) c.needs-needs.ensures.1 in
    let needs : (needs_in c.needs-needs.result) ≡ needs_of v.course.log.lines v.hart (w.state.taken + 1) = fed_needs v.course.log.lines v.hart fed.0 (w.state.taken + 1) fed.1 fed.2 (needed c.needs-needs.ensures.0 c.needs-needs.result) fed.3 in
    subst (λ (a : Turn). IsAnswer 1 (worker_view rules (table_of w.seat) v w.state w.fed w.ended) (worker_view rules (table_of c.tell_all-self-in-Some.new.seat) v2 t w.fed w.ended) a) (sym c.answer.ensures)
    (waits_then rules (table_of w.seat) (table_of c.tell_all-self-in-Some.new.seat) v v1 v2 w.state t w.told w.before w.stream w.fed w.ended w.is left c.short_of.ensures.looked c.tell_all-self-in-Some.result c.tell_all-self-in-Some.ensures.told c.tell_all-self-in-Some.ensures.view
    c.tell_all-self-in-Some.ensures.kept (ap (λ (z : State). z.taken) c.tell_all-self-in-Some.ensures.others) (needs_in c.needs-needs.result) needs c.in-Some.short c.in-Some.ensures.short)

pub invariant_of-self-then-is_err : goal.invariant_of-self-then-is_err
invariant_of-self-then-is_err g c =
    let w = c.args.self.now in
    let rules = g.L.Lifeguard.rules w.guard in
    let v = seat_view w.seat in
    let v1 : View = seat_view c.short_of.new.seat in
    let t : State = c.make_room.new.self in
    let same = ap (λ (z : State). z.taken) c.make_room.ensures.others in
    record {
      is = worker_then rules v v1 w.state t w.told w.told w.before w.stream w.fed w.ended w.is (moves_looked v v1 c.short_of.ensures.looked)
          (room_kept rules v v1 w.state t w.told w.before w.stream w.fed w.ended (g.met.L.Lifeguard.lawful w.guard) w.is c.short_of.ensures.looked c.make_room.ensures.others c.make_room.ensures.items)
          (ap (λ (z : View). z.progress) c.short_of.ensures.looked.same ∙ w.is.progress) (omega (arith, same)) (omega (arith, same, w.is.few));
    }

pub keep_up-self-requires-clause-kept : goal.keep_up-self-requires-clause-kept
keep_up-self-requires-clause-kept g c =
    let w = c.args.self.now in
    room_kept (g.L.Lifeguard.rules w.guard) (seat_view w.seat) (seat_view c.short_of.new.seat) w.state c.make_room.new.self w.told w.before w.stream w.fed w.ended (g.met.L.Lifeguard.lawful w.guard) w.is c.short_of.ensures.looked c.make_room.ensures.others c.make_room.ensures.items

pub take_record-requires-clause-ready : goal.take_record-requires-clause-ready
take_record-requires-clause-ready g c =
    let w = c.args.self.now in
    let rules = g.L.Lifeguard.rules w.guard in
    let v = seat_view w.seat in
    let v1 : View = seat_view c.short_of.new.seat in
    let ne : w.state.taken ≡ w.fed → ⊥ = c.if-taken-self.false in
    let left : w.state.taken < w.fed = omega (arith, ne, w.is.few) in
    let fed = next_fed rules v w.state w.told w.before w.stream w.fed w.ended w.is left (needed c.needs-needs.ensures.0 c.needs-needs.result) c.needs-needs.ensures.1 in
    let needs : (needs_in c.needs-needs.result) ≡ needs_of v.course.log.lines v.hart (w.state.taken + 1) = fed_needs v.course.log.lines v.hart fed.0 (w.state.taken + 1) fed.1 fed.2 (needed c.needs-needs.ensures.0 c.needs-needs.result) fed.3 in
    ready_then rules (table_of w.seat) (table_of c.keep_up-self.new.seat) v v1 (seat_view c.keep_up-self.new.seat) w.state c.keep_up-self.new.state w.told w.before w.stream w.fed w.ended w.is left c.short_of.ensures.looked c.keep_up-self.result c.keep_up-self.ensures.view c.keep_up-self.ensures.kept
    (ap (λ (z : State). z.taken) c.keep_up-self.ensures.others ∙ ap (λ (z : State). z.taken) c.make_room.ensures.others) (let near = c.keep_up-self.ensures.near in let same = ap (λ (z : State). z.taken) c.make_room.ensures.others in omega (arith, near, same))
    (needs_in c.needs-needs.result) needs (c.short_of.ensures.seen c.in_default.is)

pub take_record-requires-clause-fed : goal.take_record-requires-clause-fed
take_record-requires-clause-fed g c =
    let w = c.args.self.now in
    let v = seat_view w.seat in
    let v1 : View = seat_view c.short_of.new.seat in
    let v2 : View = seat_view c.keep_up-self.new.seat in
    let ne : w.state.taken ≡ w.fed → ⊥ = c.if-taken-self.false in
    let t = next_fed (g.L.Lifeguard.rules w.guard) v w.state w.told w.before w.stream w.fed w.ended w.is (omega (arith, ne, w.is.few)) (record { entry = c.get-entry.result; needs = c.get-entry.ensures.0 }) c.get-entry.ensures.1 in
    let moves : Moves v v2 = moves_then v v1 v2 (moves_looked v v1 c.short_of.ensures.looked)
    (moves_told v1 v2 c.keep_up-self.result c.keep_up-self.ensures.view (let rises = c.keep_up-self.ensures.rises in let same = ap (λ (z : View). z.progress) c.short_of.ensures.looked.same in omega (arith, rises, same, w.is.progress))) in
    fed_then v v2 w.state.taken c.keep_up-self.new.state.taken c.get-entry.result moves (ap (λ (z : State). z.taken) c.keep_up-self.ensures.others ∙ ap (λ (z : State). z.taken) c.make_room.ensures.others)
    (t.0, t.1, t.2, ap (λ (z : Item). z.entry) t.3)
