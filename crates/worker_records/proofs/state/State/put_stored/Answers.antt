use Rattle.std.proofs.Common.{◌≡◌, ◌≢◌, ℕ, ◌+◌, false, sym, ap, ◌∙◌, subst, arith}
use Rattle.pl_base.specs.Widths.{store_bytes}
use Rattle.order_core.specs.declared.course.Op.{Op}
use Rattle.order_core.specs.Course.{Planned}
use Rattle.guard_table.specs.declared.put.Put.{Put}
use Rattle.guard_table.specs.declared.view.View.{View}
use Rattle.guard_table.specs.Seats.{plan_of, seat_view}
use Rattle.worker_laws.specs.Runs.{IsReach, Run, before, reach_in}
use Rattle.worker_laws.specs.Reads.{stored_word, value_at, value_read, value_write}
use Rattle.worker_records.specs.Accesses.{put_of}
use Rattle.worker_records.specs.Checks.{check_of}
use Rattle.worker_records.specs.Places.{run_at}
use Rattle.worker_records.specs.States.{parts_of}
use Rattle.worker_records.specs.Steps.{IsWriteOf}
use Rattle.worker_records.proofs.AccessLemmas.{fits, value_has, value_may, value_told}
use Rattle.worker_records.proofs.CountLemmas.{size_small}
use Rattle.worker_records.proofs.StoreLemmas.{write_may}
use Rattle.worker_records.proofs.state.State.put_stored.Goals as goal

pub overflow_add-number : goal.overflow_add-number
overflow_add-number g c =
    let v = seat_view c.args.seat.now in
    let s = c.args.self.now in
    let t = c.requires.next in
    let p : Run = run_at (g.L.Lifeguard.rules c.args.guard) v in
    let reach : IsReach p v.hart (s.taken + 1) (check_of c.args.addr (store_bytes c.args.width)) = ap reach_in t.2.is in
    let a = size_small p t.2.ready.run v.hart in
    let b = t.2.ready.next.within in
    omega (arith, a, b)

pub read-word-requires-clause-may : goal.read-word-requires-clause-may
read-word-requires-clause-may g c =
    let v = seat_view c.args.seat.now in
    let s = c.args.self.now in
    let t = c.requires.next in
    let p : Run = run_at (g.L.Lifeguard.rules c.args.guard) v in
    let reach : IsReach p v.hart (s.taken + 1) (check_of c.args.addr (store_bytes c.args.width)) = ap reach_in t.2.is in
    (p, value_read v.course.log.block (before p v.hart (s.taken + 1)).words c.args.addr, value_may p v s.taken (parts_of s) t.2.ready (check_of c.args.addr (store_bytes c.args.width)) reach (g.P.Plan.planned (plan_of c.args.monitor.now)) c.requires.at.plan c.args.directory c.requires.directory c.requires.some c.shadow_word-at.result c.shadow_word-at.ensures c.requires.stores c.value_op-op.result (c.value_op-op.ensures ∙ ap value_at c.name.ensures))

pub word_after-after-requires-clause-near : goal.word_after-after-requires-clause-near
word_after-after-requires-clause-near g c =
    let v = seat_view c.args.seat.now in
    let s = c.args.self.now in
    let t = c.requires.next in
    let p : Run = run_at (g.L.Lifeguard.rules c.args.guard) v in
    let reach : IsReach p v.hart (s.taken + 1) (check_of c.args.addr (store_bytes c.args.width)) = ap reach_in t.2.is in
    (fits p v.hart (s.taken + 1) t.2.ready.run (check_of c.args.addr (store_bytes c.args.width)) reach).0

pub word_after-after-requires-clause-narrow : goal.word_after-after-requires-clause-narrow
word_after-after-requires-clause-narrow g c =
    let v = seat_view c.args.seat.now in
    let s = c.args.self.now in
    let t = c.requires.next in
    let p : Run = run_at (g.L.Lifeguard.rules c.args.guard) v in
    let reach : IsReach p v.hart (s.taken + 1) (check_of c.args.addr (store_bytes c.args.width)) = ap reach_in t.2.is in
    (fits p v.hart (s.taken + 1) t.2.ready.run (check_of c.args.addr (store_bytes c.args.width)) reach).1

pub word_after-after-requires-clause-low : goal.word_after-after-requires-clause-low
word_after-after-requires-clause-low g c i lt =
    let v = seat_view c.args.seat.now in
    let s = c.args.self.now in
    let t = c.requires.next in
    let p : Run = run_at (g.L.Lifeguard.rules c.args.guard) v in
    let reach : IsReach p v.hart (s.taken + 1) (check_of c.args.addr (store_bytes c.args.width)) = ap reach_in t.2.is in
    (value_told p v s.taken (parts_of s) t.2.ready (check_of c.args.addr (store_bytes c.args.width)) reach (g.P.Plan.planned (plan_of c.args.monitor.now)) c.requires.at.plan c.args.directory c.requires.directory c.requires.some c.shadow_word-at.result c.shadow_word-at.ensures c.requires.stores c.value_op-op.result (c.value_op-op.ensures ∙ ap value_at c.name.ensures) c.read-word.result c.read-word.ensures.value i lt).1

pub write-requires-clause-may : goal.write-requires-clause-may
write-requires-clause-may g c =
    let v = seat_view c.args.seat.now in
    let s = c.args.self.now in
    let t = c.requires.next in
    let p : Run = run_at (g.L.Lifeguard.rules c.args.guard) v in
    let reach : IsReach p v.hart (s.taken + 1) (check_of c.args.addr (store_bytes c.args.width)) = ap reach_in t.2.is in
    subst (λ (z : Put). (o : Op) × IsWriteOf (g.P.Plan.planned (plan_of c.args.monitor.now)) (seat_view c.read-word.new.seat) (s.taken + 1) (c.value_op-op.result + 1) c.shadow_word-at.result z o) (sym c.put_of-put.ensures)
    (subst (λ (z : View). (o : Op) × IsWriteOf (g.P.Plan.planned (plan_of c.args.monitor.now)) z (s.taken + 1) (c.value_op-op.result + 1) c.shadow_word-at.result (put_of c.block.result c.read-word.result c.word_after-after.result) o) (sym c.read-word.ensures.view)
    ((value_write v.course.log.block (before p v.hart (s.taken + 1)).words c.args.addr (stored_word (g.L.Lifeguard.rules c.args.guard) ((before p v.hart (s.taken + 1)).state.masks v.hart t.0) c.args.width c.args.addr)), write_may p v s.taken (parts_of s) t.2.ready c.args.width t.0 t.1 c.args.addr t.2.is c.requires.stores (λ e. c.requires.some (c.requires.directory ∙ e)) (g.P.Plan.planned (plan_of c.args.monitor.now)) c.requires.at.plan c.value_op-op.result (c.value_op-op.ensures ∙ ap value_at c.name.ensures) c.shadow_word-at.result c.args.directory c.shadow_word-at.ensures c.requires.directory c.read-word.result (value_has p v s.taken (parts_of s) t.2.ready (check_of c.args.addr (store_bytes c.args.width)) reach (g.P.Plan.planned (plan_of c.args.monitor.now)) c.requires.at.plan c.args.directory c.requires.directory c.requires.some c.shadow_word-at.result c.shadow_word-at.ensures c.requires.stores c.value_op-op.result (c.value_op-op.ensures ∙ ap value_at c.name.ensures) c.read-word.result c.read-word.ensures.value) c.args.mask c.word_after-after.result t.3 c.word_after-after.ensures c.block.result (c.block.ensures ∙ ap (λ (z : Planned). z.log.block) c.requires.at.plan)))
