use Rattle.std.proofs.Common.{◌≡◌, ◌≢◌, ℕ, ◌+◌, ◌*◌, ◌/◌, ◌<◌, ◌≤◌, ◌⊎◌, List, Option, None, refl, sym, ap, ◌∙◌, subst, arith}
use Rattle.pl_base.specs.Widths.{store_bytes}
use Rattle.pl_event.specs.declared.event.Kind.{Kind}
use Rattle.pl_event.specs.declared.event.Kind.TheVariants.{St}
use Rattle.lifeguard.specs.declared.guard.Name.TheVariants as name
use Rattle.order_core.specs.Course.{Planned}
use Rattle.guard_table.specs.declared.view.View.{View}
use Rattle.guard_table.specs.Seats.{plan_of, seat_view}
use Rattle.guard_table.specs.Views.{wrote}
use Rattle.inherit_track.specs.declared.state.Held.{Held}
use Rattle.inherit_track.specs.declared.state.RegState.{RegState}
use Rattle.inherit_track.specs.declared.state.RegState.TheVariants as reg
use Rattle.inherit_track.specs.States.{LiesIn, state_in}
use Rattle.worker_laws.specs.Runs.{Run, before, masks_before}
use Rattle.worker_laws.specs.Reads.{directory_of}
use Rattle.worker_laws.specs.Folds.{checks_at, misses_at}
use Rattle.worker_records.specs.declared.state.Found.{Found}
use Rattle.worker_records.specs.declared.state.State.{State}
use Rattle.worker_records.specs.Checks.{bad_of, check_of, IsOutcome}
use Rattle.worker_records.specs.Places.{run_at}
use Rattle.worker_records.specs.Registers.{registers_of}
use Rattle.worker_records.specs.States.{IsKept, IsMade, IsNext}
use Rattle.worker_records.proofs.AccessLemmas.{fits}
use Rattle.worker_records.proofs.CountLemmas.{few_checks, few_misses, size_small}
use Rattle.worker_records.proofs.FieldLemmas.{valid_fields}
use Rattle.worker_records.proofs.MadeLemmas.{IsThrough, made_from, still_next, store_made, store_reach, through_of}
use Rattle.worker_records.proofs.state.State.store.Goals as goal

abbrev found_at : Option ℕ → Found
found_at touched = record { touched = touched; sent = None }

pub mask_of-mask-requires-clause-register : goal.mask_of-mask-requires-clause-register
mask_of-mask-requires-clause-register g c =
    let rules = g.L.Lifeguard.rules c.args.guard in
    let v = seat_view c.args.seat.now in
    let s = c.args.self.now in
    let r = c.requires.next in
    let p : Run = run_at rules v in
    (valid_fields p r.1.ready.run v.hart (s.taken + 1) (St c.args.width c.args.rv r.0 c.args.addr) r.1.is).0

pub free_block-requires-clause-near : goal.free_block-requires-clause-near
free_block-requires-clause-near g c =
    let rules = g.L.Lifeguard.rules c.args.guard in
    let v = seat_view c.args.seat.now in
    let s = c.args.self.now in
    let r = c.requires.next in
    let p : Run = run_at rules v in
    (fits p v.hart (s.taken + 1) r.1.ready.run (check_of c.args.addr (store_bytes c.args.width)) (store_reach rules v s c.args.width c.args.rv r.0 c.args.addr r.1)).0

pub keep_frame-requires-clause-near : goal.keep_frame-requires-clause-near
keep_frame-requires-clause-near g c =
    let rules = g.L.Lifeguard.rules c.args.guard in
    let v = seat_view c.args.seat.now in
    let s = c.args.self.now in
    let r = c.requires.next in
    let p : Run = run_at rules v in
    (fits p v.hart (s.taken + 1) r.1.ready.run (check_of c.args.addr (store_bytes c.args.width)) (store_reach rules v s c.args.width c.args.rv r.0 c.args.addr r.1)).0

pub count-requires-clause-checks : goal.count-requires-clause-checks
count-requires-clause-checks g c =
    let rules = g.L.Lifeguard.rules c.args.guard in
    let v = seat_view c.args.seat.now in
    let s = c.args.self.now in
    let r = c.requires.next in
    let p : Run = run_at rules v in
    let a = size_small p r.1.ready.run v.hart in
    let b = r.1.ready.next.within in
    let d : s.checks ≡ checks_at p v.hart s.taken = r.1.ready.kept.counted.checks in
    let e = few_checks p v.hart s.taken in
    let f = ap (λ (z : State). z.checks) (c.free_block.ensures.others ∙ ap (λ (z : State). record z { tracker = c.free_block.new.self.tracker }) c.mask_of-mask.ensures.others) in
    omega (arith, a, b, d, e, f)

pub count-requires-clause-misses : goal.count-requires-clause-misses
count-requires-clause-misses g c =
    let rules = g.L.Lifeguard.rules c.args.guard in
    let v = seat_view c.args.seat.now in
    let s = c.args.self.now in
    let r = c.requires.next in
    let p : Run = run_at rules v in
    let a = size_small p r.1.ready.run v.hart in
    let b = r.1.ready.next.within in
    let d : s.misses ≡ misses_at p v.hart s.taken = r.1.ready.kept.counted.misses in
    let e = few_misses p v.hart s.taken in
    let f = ap (λ (z : State). z.misses) (c.free_block.ensures.others ∙ ap (λ (z : State). record z { tracker = c.free_block.new.self.tracker }) c.mask_of-mask.ensures.others) in
    omega (arith, a, b, d, e, f)

pub store_value-requires-clause-next : goal.store_value-requires-clause-next
store_value-requires-clause-next g c =
    let rules = g.L.Lifeguard.rules c.args.guard in
    let v = seat_view c.args.seat.now in
    let s = c.args.self.now in
    let r = c.requires.next in
    let p : Run = run_at rules v in
    let view1 = c.mask_of-mask.ensures.view ∙ c.directory-directory.ensures.view in
    let view2 = c.free_block.ensures.view ∙ view1 in
    let s2 : State = c.free_block.new.self in
    let all : s2 ≡ record s { tracker = s2.tracker } = c.free_block.ensures.others ∙ ap (λ (z : State). record z { tracker = s2.tracker }) c.mask_of-mask.ensures.others in
    let same : s2.taken ≡ s.taken = ap (λ (z : State). z.taken) all in
    let kept2 : IsKept rules v s2 = subst (λ (z : View). IsKept rules z s2) view1 c.free_block.ensures.kept in
    let view3 = c.check-outcome.ensures.view ∙ view2 in
    let kind : Kind = St c.args.width c.args.rv r.0 c.args.addr in
    let mask : c.mask_of-mask.result ≡ masks_before p v.hart (s2.taken + 1) c.args.rv
    = subst (λ (z : ℕ). c.mask_of-mask.result ≡ masks_before p v.hart (z + 1) c.args.rv) (sym same)
    (subst (λ (z : View). c.mask_of-mask.result ≡ masks_before (run_at rules z) z.hart (s.taken + 1) c.args.rv) c.directory-directory.ensures.view c.mask_of-mask.ensures.mask) in
    subst (λ (z : View). (rv : ℕ) × (rb : ℕ) × IsNext rules z s2 (St c.args.width rv rb c.args.addr) × (c.mask_of-mask.result ≡ masks_before (run_at rules z) z.hart (s2.taken + 1) rv)) (sym view3)
    (c.args.rv, r.0, still_next rules v s s2 kind r.1 kept2 same, mask)

pub store_value-requires-clause-directory : goal.store_value-requires-clause-directory
store_value-requires-clause-directory g c =
    let rules = g.L.Lifeguard.rules c.args.guard in
    let v = seat_view c.args.seat.now in
    let s = c.args.self.now in
    let r = c.requires.next in
    let p : Run = run_at rules v in
    let view1 = c.mask_of-mask.ensures.view ∙ c.directory-directory.ensures.view in
    let view2 = c.free_block.ensures.view ∙ view1 in
    let s2 : State = c.free_block.new.self in
    let all : s2 ≡ record s { tracker = s2.tracker } = c.free_block.ensures.others ∙ ap (λ (z : State). record z { tracker = s2.tracker }) c.mask_of-mask.ensures.others in
    let same : s2.taken ≡ s.taken = ap (λ (z : State). z.taken) all in
    let kept2 : IsKept rules v s2 = subst (λ (z : View). IsKept rules z s2) view1 c.free_block.ensures.kept in
    let view3 = c.check-outcome.ensures.view ∙ view2 in
    let d = c.directory-directory.result in
    subst (λ (z : View). d ≡ (before (run_at rules z) z.hart (s2.taken + 1)).words (directory_of c.args.addr)) (sym view3)
    (subst (λ (z : ℕ). d ≡ (before p v.hart (z + 1)).words (directory_of c.args.addr)) (sym same) c.directory-directory.ensures.value)

pub returns-clause-made : goal.returns-clause-made
returns-clause-made g c rb next =
    let rules = g.L.Lifeguard.rules c.args.guard in
    let v = seat_view c.args.seat.now in
    let s = c.args.self.now in
    let r = c.requires.next in
    let p : Run = run_at rules v in
    let view1 = c.mask_of-mask.ensures.view ∙ c.directory-directory.ensures.view in
    let view2 = c.free_block.ensures.view ∙ view1 in
    let s2 : State = c.free_block.new.self in
    let all : s2 ≡ record s { tracker = s2.tracker } = c.free_block.ensures.others ∙ ap (λ (z : State). record z { tracker = s2.tracker }) c.mask_of-mask.ensures.others in
    let same : s2.taken ≡ s.taken = ap (λ (z : State). z.taken) all in
    let kept2 : IsKept rules v s2 = subst (λ (z : View). IsKept rules z s2) view1 c.free_block.ensures.kept in
    let view3 = c.check-outcome.ensures.view ∙ view2 in
    let t : State = c.keep_frame.new.self in
    let d = c.directory-directory.result in
    let o = c.check-outcome.result in
    let w : View = seat_view c.store_value.new.seat in
    let kind : Kind = St c.args.width c.args.rv rb c.args.addr in
    let next2 : IsNext rules v s2 kind = still_next rules v s s2 kind next kept2 same in
    let through = through_of s2 c.count.new.self t t c.args.addr c.bytes-len.result d o c.count.ensures.parts c.count.ensures.others c.keep_frame.ensures.look c.keep_frame.ensures.others refl in
    let tracker : t.tracker ≡ s2.tracker = ap (λ (z : State). z.tracker) (c.keep_frame.ensures.others ∙ ap (λ (z : State). record z { look = t.look }) c.count.ensures.others) in
    let is : IsOutcome rules v s2 (check_of c.args.addr (store_bytes c.args.width)) o
    = subst (λ (z : ℕ). IsOutcome rules v s2 (check_of c.args.addr z) o) c.bytes-len.ensures
    (subst (λ (z : View). IsOutcome rules z s2 (check_of c.args.addr c.bytes-len.result) o) view2 c.check-outcome.ensures.outcome) in
    let is_d : d ≡ (before p v.hart (s2.taken + 1)).words (directory_of c.args.addr) = subst (λ (z : ℕ). d ≡ (before p v.hart (z + 1)).words (directory_of c.args.addr)) (sym same) c.directory-directory.ensures.value in
    let block : (g.P.Plan.planned (plan_of c.args.monitor.now)).log.block ≡ v.course.log.block = ap (λ (z : Planned). z.log.block) c.requires.at.plan in
    let apart : (q : ℕ) (from : Held) → registers_of (state_in s2.tracker) q ≡ reg.Held from → LiesIn (v.course.log.block * (c.args.addr / v.course.log.block)) v.course.log.block from → ⊥
    = subst (λ (z : ℕ). (q : ℕ) (from : Held) → registers_of (state_in s2.tracker) q ≡ reg.Held from → LiesIn (z * (c.args.addr / z)) z from → ⊥) block c.free_block.ensures.apart in
    subst (λ (z : Found). IsMade rules v w s t kind z) (sym (c.touched.ensures ∙ ap found_at c.bad.ensures))
    (made_from rules v w s s2 t kind (found_at (bad_of o)) same (ap (λ (z : State). z.reports) all)
    (store_made rules v s2 c.args.width c.args.rv rb c.args.addr next2 d is_d o is t (subst (λ (z : ℕ). IsThrough s2 t c.args.addr z d o) c.bytes-len.ensures through) tracker apart w
    (λ some other. c.store_value.ensures.wrote some other ∙ ap wrote view3)
    (λ none. c.store_value.ensures.same none ∙ view3)))
