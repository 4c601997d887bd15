use Rattle.std.proofs.Common.{◌≡◌, ℕ, ◌+◌, ◌<◌, ◌≤◌, List, Option, None, sym, ap, ◌∙◌, subst, arith}
use Rattle.pl_base.specs.Widths.{load_bytes}
use Rattle.pl_event.specs.declared.event.Kind.{Kind}
use Rattle.pl_event.specs.declared.event.Kind.TheVariants.{Ld}
use Rattle.guard_table.specs.declared.view.View.{View}
use Rattle.inherit_track.specs.declared.state.RegState.{RegState}
use Rattle.inherit_track.specs.States.{state_in, with_state}
use Rattle.guard_table.specs.Seats.{seat_view}
use Rattle.worker_laws.specs.Runs.{Run}
use Rattle.worker_laws.specs.Folds.{checks_at, misses_at}
use Rattle.worker_records.specs.declared.state.Found.{Found}
use Rattle.worker_records.specs.declared.state.State.{State}
use Rattle.worker_records.specs.Accesses.{loaded_state}
use Rattle.worker_records.specs.Checks.{bad_of, check_of, IsOutcome}
use Rattle.worker_records.specs.Places.{run_at}
use Rattle.worker_records.specs.States.{IsMade}
use Rattle.worker_records.proofs.AccessLemmas.{fits}
use Rattle.worker_records.proofs.CountLemmas.{few_checks, few_misses, size_small}
use Rattle.worker_records.proofs.FieldLemmas.{valid_fields}
use Rattle.worker_records.proofs.MadeLemmas.{IsThrough, load_made, load_reach, through_of}
use Rattle.worker_records.proofs.state.State.load.Goals as goal

abbrev found_at : Option ℕ → Found
found_at touched = record { touched = touched; sent = None }

pub count-requires-clause-checks : goal.count-requires-clause-checks
count-requires-clause-checks g c =
    let v = seat_view c.args.seat.now in
    let s = c.args.self.now in
    let t = c.requires.next in
    let p : Run = run_at (g.L.Lifeguard.rules c.args.guard) v in
    let a = size_small p t.1.ready.run v.hart in
    let b = t.1.ready.next.within in
    let d : s.checks ≡ checks_at p v.hart s.taken = t.1.ready.kept.counted.checks in
    let e = few_checks p v.hart s.taken in
    omega (arith, a, b, d, e)

pub count-requires-clause-misses : goal.count-requires-clause-misses
count-requires-clause-misses g c =
    let v = seat_view c.args.seat.now in
    let s = c.args.self.now in
    let t = c.requires.next in
    let p : Run = run_at (g.L.Lifeguard.rules c.args.guard) v in
    let a = size_small p t.1.ready.run v.hart in
    let b = t.1.ready.next.within in
    let d : s.misses ≡ misses_at p v.hart s.taken = t.1.ready.kept.counted.misses in
    let e = few_misses p v.hart s.taken in
    omega (arith, a, b, d, e)

pub keep_frame-requires-clause-near : goal.keep_frame-requires-clause-near
keep_frame-requires-clause-near g c =
    let v = seat_view c.args.seat.now in
    let s = c.args.self.now in
    let t = c.requires.next in
    let p : Run = run_at (g.L.Lifeguard.rules c.args.guard) v in
    (fits p v.hart (s.taken + 1) t.1.ready.run (check_of c.args.addr (load_bytes c.args.width)) (load_reach (g.L.Lifeguard.rules c.args.guard) v s c.args.width c.args.rd t.0 c.args.addr t.1)).0

pub overflow_add-number : goal.overflow_add-number
overflow_add-number g c =
    let v = seat_view c.args.seat.now in
    let s = c.args.self.now in
    let t = c.requires.next in
    let p : Run = run_at (g.L.Lifeguard.rules c.args.guard) v in
    let a = size_small p t.1.ready.run v.hart in
    let b = t.1.ready.next.within in
    let e = ap (λ (z : State). z.taken) (c.keep_frame.ensures.others ∙ ap (λ (z : State). record z { look = c.keep_frame.new.self.look }) c.count.ensures.others) in
    omega (arith, a, b, e)

pub put_loaded-requires-clause-register : goal.put_loaded-requires-clause-register
put_loaded-requires-clause-register g c =
    let v = seat_view c.args.seat.now in
    let s = c.args.self.now in
    let t = c.requires.next in
    let p : Run = run_at (g.L.Lifeguard.rules c.args.guard) v in
    (valid_fields p t.1.ready.run v.hart (s.taken + 1) (Ld c.args.width c.args.rd t.0 c.args.addr) t.1.is).0

pub put_loaded-requires-clause-near : goal.put_loaded-requires-clause-near
put_loaded-requires-clause-near g c =
    let v = seat_view c.args.seat.now in
    let s = c.args.self.now in
    let t = c.requires.next in
    let p : Run = run_at (g.L.Lifeguard.rules c.args.guard) v in
    (fits p v.hart (s.taken + 1) t.1.ready.run (check_of c.args.addr (load_bytes c.args.width)) (load_reach (g.L.Lifeguard.rules c.args.guard) v s c.args.width c.args.rd t.0 c.args.addr t.1)).0

pub returns-clause-made : goal.returns-clause-made
returns-clause-made g c rb next =
    let rules = g.L.Lifeguard.rules c.args.guard in
    let v = seat_view c.args.seat.now in
    let s = c.args.self.now in
    let t : State = c.put_loaded.new.self in
    let d = c.directory-directory.result in
    let o = c.check-outcome.result in
    let kind : Kind = Ld c.args.width c.args.rd rb c.args.addr in
    let view = c.check-outcome.ensures.view ∙ c.directory-directory.ensures.view in
    let through = through_of s c.count.new.self c.keep_frame.new.self t c.args.addr c.bytes-len.result d o c.count.ensures.parts c.count.ensures.others c.keep_frame.ensures.look c.keep_frame.ensures.others c.put_loaded.ensures.others in
    let number = ap (λ (z : State). z.taken + 1) (c.keep_frame.ensures.others ∙ ap (λ (z : State). record z { look = c.keep_frame.new.self.look }) c.count.ensures.others) in
    let tracker = ap (λ (z : State). z.tracker) (c.keep_frame.ensures.others ∙ ap (λ (z : State). record z { look = c.keep_frame.new.self.look }) c.count.ensures.others) in
    let is : IsOutcome rules v s (check_of c.args.addr (load_bytes c.args.width)) o
    = subst (λ (z : ℕ). IsOutcome rules v s (check_of c.args.addr z) o) c.bytes-len.ensures
    (subst (λ (z : View). IsOutcome rules z s (check_of c.args.addr c.bytes-len.result) o) c.directory-directory.ensures.view c.check-outcome.ensures.outcome) in
    let low = (valid_fields (run_at rules v) next.ready.run v.hart (s.taken + 1) kind next.is).0 in
    let states : (r : ℕ) → state_in t.tracker r ≡ with_state (state_in s.tracker) c.args.rd (loaded_state rules (record { addr = c.args.addr; width = c.args.width; number = s.taken + 1 }) d) r
    = subst (λ (z : ℕ). (r : ℕ) → state_in t.tracker r ≡ with_state (state_in s.tracker) c.args.rd (loaded_state rules (record { addr = c.args.addr; width = c.args.width; number = z }) d) r) number
    (subst (λ (z : List RegState). (r : ℕ) → state_in t.tracker r ≡ with_state (state_in z) c.args.rd (loaded_state rules (record { addr = c.args.addr; width = c.args.width; number = c.keep_frame.new.self.taken + 1 }) d) r) tracker c.put_loaded.ensures.states) in
    subst (λ (z : Found). IsMade rules v (seat_view c.check-outcome.new.seat) s t kind z) (sym (c.touched.ensures ∙ ap found_at c.bad.ensures))
    (subst (λ (z : View). IsMade rules v z s t kind (found_at (bad_of o))) (sym view)
    (load_made rules v s c.args.width c.args.rd rb c.args.addr next d c.directory-directory.ensures.value o is t (subst (λ (z : ℕ). IsThrough s t c.args.addr z d o) c.bytes-len.ensures through) low states))
