use Rattle.std.proofs.Common.{◌≡◌, ℕ, ◌+◌, ◌-◌, ◌*◌, ◌/◌, ◌%◌, ◌<◌, ◌≤◌, false, Some, refl, sym, ap, ◌∙◌, subst, arith}
use Rattle.order_core.specs.Course.{Planned}
use Rattle.guard_table.specs.Seats.{plan_of, seat_view}
use Rattle.worker_laws.specs.Runs.{Run, before}
use Rattle.worker_laws.specs.Reads.{directory_of, directory_read}
use Rattle.worker_laws.proofs.Turning.{found_now}
use Rattle.order_core.proofs.Known.{known}
use Rattle.worker_records.specs.Checks.{check_of}
use Rattle.worker_records.specs.Places.{run_at}
use Rattle.worker_records.specs.States.{parts_of}
use Rattle.worker_records.proofs.AccessLemmas.{directory_is, directory_low, directory_now, fits}
use Rattle.worker_records.proofs.CountLemmas.{size_small}
use Rattle.worker_records.proofs.state.State.directory.Goals as goal

pub overflow_cast-addr : goal.overflow_cast-addr
overflow_cast-addr g c =
    let v = seat_view c.args.seat.now in
    let p : Run = run_at (g.L.Lifeguard.rules c.args.guard) v in
    let l : c.args.addr < 16777216 = (fits p v.hart (c.args.self.now.taken + 1) c.requires.ready.run (check_of c.args.addr c.requires.reach.0) c.requires.reach.1).0 in
    omega arith

pub overflow_add-self : goal.overflow_add-self
overflow_add-self g c =
    let v = seat_view c.args.seat.now in
    let p : Run = run_at (g.L.Lifeguard.rules c.args.guard) v in
    let a = size_small p c.requires.ready.run v.hart in
    let b = c.requires.ready.next.within in
    omega (arith, a, b)

pub directory_word-requires : goal.directory_word-requires
directory_word-requires g c =
    let v = seat_view c.args.seat.now in
    let p : Run = run_at (g.L.Lifeguard.rules c.args.guard) v in
    (fits p v.hart (c.args.self.now.taken + 1) c.requires.ready.run (check_of c.args.addr c.requires.reach.0) c.requires.reach.1).0

pub read-requires-clause-may : goal.read-requires-clause-may
read-requires-clause-may g c =
    let v = seat_view c.args.seat.now in
    let s = c.args.self.now in
    let p : Run = run_at (g.L.Lifeguard.rules c.args.guard) v in (
      p,
      directory_read (before p v.hart (s.taken + 1)).words c.args.addr,
      directory_now p v s.taken (parts_of s) c.requires.ready (check_of c.args.addr c.requires.reach.0) c.requires.reach.1 (g.P.Plan.planned (plan_of c.args.monitor.now)) (sym c.requires.at.plan) c.directory_word.result c.directory_word.ensures,
    )

pub returns-in-None-clause-value : goal.returns-in-None-clause-value
returns-in-None-clause-value g c =
    let v = seat_view c.args.seat.now in
    let s = c.args.self.now in
    let p : Run = run_at (g.L.Lifeguard.rules c.args.guard) v in
    directory_is p v.hart (s.taken + 1) c.requires.ready.run (check_of c.args.addr c.requires.reach.0) c.requires.reach.1 c.read.result c.read.type_inv
    (c.read.ensures.value p (directory_read (before p v.hart (s.taken + 1)).words c.args.addr)
    (directory_now p v s.taken (parts_of s) c.requires.ready (check_of c.args.addr c.requires.reach.0) c.requires.reach.1 (g.P.Plan.planned (plan_of c.args.monitor.now)) (sym c.requires.at.plan) c.directory_word.result c.directory_word.ensures))

pub returns-in-None-clause-small : goal.returns-in-None-clause-small
returns-in-None-clause-small g c =
    let v = seat_view c.args.seat.now in
    let s = c.args.self.now in
    let p : Run = run_at (g.L.Lifeguard.rules c.args.guard) v in
    subst (λ (z : ℕ). z ≤ 512) (sym (returns-in-None-clause-value g c))
    (directory_low p v.hart (s.taken + 1) c.requires.ready.run (check_of c.args.addr c.requires.reach.0) c.requires.reach.1)

pub returns-in-Some-clause-value : goal.returns-in-Some-clause-value
returns-in-Some-clause-value g c =
    let v = seat_view c.args.seat.now in
    let s = c.args.self.now in
    let p : Run = run_at (g.L.Lifeguard.rules c.args.guard) v in
    let page : 17 + c.args.addr / 4096 ≡ directory_of c.args.addr = omega arith in
    ap (λ (z : ℕ). z + 1) c.from.ensures
    ∙ (sym (found_now p c.requires.ready.run (known _ c.requires.ready.run.lawful) v.hart v s.taken (parts_of s) c.requires.ready.kept c.requires.ready.next (check_of c.args.addr c.requires.reach.0) c.requires.reach.1 (c.args.addr / 4096) c.in-Some.frame
    (sym c.find.ensures ∙ c.in-Some.is))
    ∙ ap (before p v.hart (s.taken + 1)).words page)

pub returns-in-Some-clause-small : goal.returns-in-Some-clause-small
returns-in-Some-clause-small g c =
    let v = seat_view c.args.seat.now in
    let s = c.args.self.now in
    let p : Run = run_at (g.L.Lifeguard.rules c.args.guard) v in
    subst (λ (z : ℕ). z ≤ 512) (sym (returns-in-Some-clause-value g c))
    (directory_low p v.hart (s.taken + 1) c.requires.ready.run (check_of c.args.addr c.requires.reach.0) c.requires.reach.1)
