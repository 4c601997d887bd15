use Rattle.std.proofs.Common.{ℕ, ◌+◌, ◌<◌, [], sym, ap, subst, arith}
use Rattle.guard_table.specs.declared.view.View.{View}
use Rattle.guard_table.specs.Seats.{seat_view}
use Rattle.worker_laws.specs.Runs.{Run, before, shapes_at}
use Rattle.worker_records.specs.declared.state.State.{State}
use Rattle.worker_records.specs.Accesses.{HasWritten}
use Rattle.worker_records.specs.Alerts.{IsAmid, IsFound}
use Rattle.worker_records.specs.Places.{run_at}
use Rattle.worker_records.specs.States.{IsMade, IsNext}
use Rattle.worker_records.proofs.AlertLemmas.{alert_made, amid_first}
use Rattle.worker_records.proofs.CountLemmas.{size_small}
use Rattle.worker_records.proofs.MadeLemmas.{made_from, still_next}
use Rattle.worker_records.proofs.state.State.alert.Goals as goal

pub overflow_add-number : goal.overflow_add-number
overflow_add-number g c =
    let v = seat_view c.args.seat.now in
    let p : Run = run_at (g.L.Lifeguard.rules c.args.guard) v in
    let a = size_small p c.requires.next.ready.run v.hart in
    let b = c.requires.next.ready.next.within in
    let e = ap (λ (z : State). z.taken) c.resolve_all.ensures.others in
    omega (arith, a, b, e)

pub operate-found-requires-clause-amid : goal.operate-found-requires-clause-amid
operate-found-requires-clause-amid g c =
    let rules = g.L.Lifeguard.rules c.args.guard in
    let v = seat_view c.args.seat.now in
    let s1 : State = c.resolve_all.new.self in
    let next1 : IsNext rules v s1 c.args.kind = still_next rules v c.args.self.now s1 c.args.kind c.requires.next c.resolve_all.ensures.kept (ap (λ (z : State). z.taken) c.resolve_all.ensures.others) in
    subst (λ (z : View). IsAmid (run_at rules z) z (s1.taken + 1) 0 c.args.kind (before (run_at rules z) z.hart (s1.taken + 1)).words (shapes_at (run_at rules z) z.hart (s1.taken + 1) c.args.kind)) (sym c.resolve_all.ensures.view)
    (amid_first rules v s1 c.args.kind next1)

pub returns-clause-made : goal.returns-clause-made
returns-clause-made g c =
    let rules = g.L.Lifeguard.rules c.args.guard in
    let v = seat_view c.args.seat.now in
    let s = c.args.self.now in
    let s1 : State = c.resolve_all.new.self in
    let w : View = seat_view c.operate-found.new.seat in
    let written : HasWritten v w = subst (λ (z : View). HasWritten z w) c.resolve_all.ensures.view c.operate-found.ensures.view in
    let all : (x : ℕ → ℕ) × (op : ℕ) × IsAmid (run_at rules v) w (s1.taken + 1) op c.args.kind x [] × (op < 4294967295)
    = subst (λ (z : View). (x : ℕ → ℕ) × (op : ℕ) × IsAmid (run_at rules z) w (s1.taken + 1) op c.args.kind x [] × (op < 4294967295)) c.resolve_all.ensures.view c.operate-found.ensures.all in
    let found : IsFound (run_at rules v) c.args.kind (before (run_at rules v) v.hart (s1.taken + 1)).state c.operate-found.result
    = subst (λ (z : View). IsFound (run_at rules z) c.args.kind (before (run_at rules z) z.hart (s1.taken + 1)).state c.operate-found.result) c.resolve_all.ensures.view c.operate-found.ensures.found in
    let same = ap (λ (z : State). z.taken) c.resolve_all.ensures.others in
    let next1 : IsNext rules v s1 c.args.kind = still_next rules v s s1 c.args.kind c.requires.next c.resolve_all.ensures.kept same in
    let t : State = record s1 { tracker = c.set.new.self; look = c.flush.new.self; filter = c.flush-2.new.self } in
    let last : IsAmid (run_at rules v) (record v { written = w.written }) (s1.taken + 1) all.1 c.args.kind all.0 [] = subst (λ (z : View). IsAmid (run_at rules v) z (s1.taken + 1) all.1 c.args.kind all.0 []) written.same all.2 in
    subst (λ (z : View). IsMade rules v z s t c.args.kind c.operate-found.result) (sym written.same)
    (made_from rules v (record v { written = w.written }) s s1 t c.args.kind c.operate-found.result same (ap (λ (z : State). z.reports) c.resolve_all.ensures.others)
    (alert_made rules v s1 c.args.kind next1 w.written all.1 all.0 all.3 last c.requires.alert c.resolve_all.ensures.nothing c.set.new.self c.set.ensures c.flush.new.self c.flush-2.new.self c.flush.ensures.slots c.flush-2.ensures.slots c.operate-found.result found))
