use Rattle.std.proofs.Common.{ℕ, ◌+◌, ◌%◌, ◌≤◌, sym, ◌∙◌, subst, arith}
use Rattle.guard_table.specs.Seats.{plan_of, seat_view}
use Rattle.worker_laws.specs.Runs.{Run, before}
use Rattle.worker_laws.specs.Reads.{check_read}
use Rattle.worker_records.specs.Checks.{check_of}
use Rattle.worker_records.specs.Places.{run_at}
use Rattle.worker_records.specs.States.{parts_of}
use Rattle.worker_records.proofs.AccessLemmas.{check_may, check_told, directory_low, fits, unmapped_bad}
use Rattle.worker_records.proofs.CountLemmas.{size_small}
use Rattle.worker_records.proofs.state.State.make_check.Goals as goal

pub overflow_add-self : goal.overflow_add-self
overflow_add-self g c =
    let v = seat_view c.args.seat.now in
    let p : Run = run_at (g.L.Lifeguard.rules c.args.guard) v in
    let a = size_small p c.requires.ready.run v.hart in
    let b = c.requires.ready.next.within in
    omega (arith, a, b)

pub shadow_word-requires-clause-frame : goal.shadow_word-requires-clause-frame
shadow_word-requires-clause-frame g c =
    let v = seat_view c.args.seat.now in
    let s = c.args.self.now in
    let p : Run = run_at (g.L.Lifeguard.rules c.args.guard) v in
    subst (λ (z : ℕ). z ≤ 512) (sym c.requires.directory)
    (directory_low p v.hart (s.taken + 1) c.requires.ready.run (check_of c.args.addr c.args.len) c.requires.reach)

pub check_read-word-requires-clause-may : goal.check_read-word-requires-clause-may
check_read-word-requires-clause-may g c =
    let v = seat_view c.args.seat.now in
    let s = c.args.self.now in
    let p : Run = run_at (g.L.Lifeguard.rules c.args.guard) v in (
      p,
      check_read v.course.log.block (before p v.hart (s.taken + 1)).words c.args.addr,
      check_may p v s.taken (parts_of s) c.requires.ready (check_of c.args.addr c.args.len) c.requires.reach (g.P.Plan.planned (plan_of c.args.monitor.now)) c.requires.at.plan c.args.directory c.requires.directory c.if-directory-eq0.false c.shadow_word.result c.shadow_word.ensures c.requires.checks,
    )

pub first_bad-requires-clause-near : goal.first_bad-requires-clause-near
first_bad-requires-clause-near g c =
    let v = seat_view c.args.seat.now in
    let p : Run = run_at (g.L.Lifeguard.rules c.args.guard) v in
    (fits p v.hart (c.args.self.now.taken + 1) c.requires.ready.run (check_of c.args.addr c.args.len) c.requires.reach).0

pub first_bad-requires-clause-narrow : goal.first_bad-requires-clause-narrow
first_bad-requires-clause-narrow g c =
    let v = seat_view c.args.seat.now in
    let p : Run = run_at (g.L.Lifeguard.rules c.args.guard) v in
    let f : c.args.addr % 4 + c.args.len ≤ 4 = (fits p v.hart (c.args.self.now.taken + 1) c.requires.ready.run (check_of c.args.addr c.args.len) c.requires.reach).1 in
    omega (arith, f)

pub first_bad-requires-clause-low : goal.first_bad-requires-clause-low
first_bad-requires-clause-low g c i lt =
    let v = seat_view c.args.seat.now in
    let s = c.args.self.now in
    let p : Run = run_at (g.L.Lifeguard.rules c.args.guard) v in
    (check_told p v s.taken (parts_of s) c.requires.ready (check_of c.args.addr c.args.len) c.requires.reach (g.P.Plan.planned (plan_of c.args.monitor.now)) c.requires.at.plan c.args.directory c.requires.directory c.if-directory-eq0.false c.shadow_word.result c.shadow_word.ensures c.requires.checks c.check_read-word.result c.check_read-word.ensures.value i lt).1

pub returns-clause-bad : goal.returns-clause-bad
returns-clause-bad g c =
    let v = seat_view c.args.seat.now in
    let s = c.args.self.now in
    let p : Run = run_at (g.L.Lifeguard.rules c.args.guard) v in
    c.first_bad.ensures (before p v.hart (s.taken + 1)).state.bytes
    (check_told p v s.taken (parts_of s) c.requires.ready (check_of c.args.addr c.args.len) c.requires.reach (g.P.Plan.planned (plan_of c.args.monitor.now)) c.requires.at.plan c.args.directory c.requires.directory c.if-directory-eq0.false c.shadow_word.result c.shadow_word.ensures c.requires.checks c.check_read-word.result c.check_read-word.ensures.value)

pub returns-then-directory-eq0-clause-bad : goal.returns-then-directory-eq0-clause-bad
returns-then-directory-eq0-clause-bad g c =
    let v = seat_view c.args.seat.now in
    let p : Run = run_at (g.L.Lifeguard.rules c.args.guard) v in
    unmapped_bad p v.hart (c.args.self.now.taken + 1) c.requires.ready.run (check_of c.args.addr c.args.len) c.requires.reach c.requires.checks (sym c.requires.directory ∙ c.if-directory-eq0.true)
