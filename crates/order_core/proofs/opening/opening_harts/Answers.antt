use Rattle.std.proofs.Common.{◌≡◌, ℕ, ◌+◌, ◌<◌, ◌≤◌, length, slice_set, sym, ◌∙◌, subst, arith}
use Rattle.std.proofs.lemmas.List.{get_or-set_other, get_or-set_same, length-set}
use mathlib.Core.Logic.{dite}
use native.Mathlib.Decide.{ℕ_discrete}
use Rattle.order_core.specs.declared.course.Course.{Course}
use Rattle.order_core.specs.declared.state.HartState.{HartState}
use Rattle.order_core.specs.Course.{course}
use Rattle.order_core.specs.States.{hart_in, idle}
use Rattle.order_core.specs.inner.Kept.{IsKept, IsFresh}
use Rattle.order_core.proofs.Known.{Known, known}
use Rattle.order_core.proofs.OpeningLemmas.{starting, starts_fresh, starts_kept}
use Rattle.order_core.proofs.opening.opening_harts.Goals as goal

pub bounds-harts-hart : goal.bounds-harts-hart
bounds-harts-hart g c =
    let plan = c.args.plan.now in
    let k : Course = course g.P.Plan.planned plan in
    let is : Known k = known k (g.met.P.Plan.lawful plan) in
    let end : c.harts-hart-end.result ≡ k.log.harts = c.harts-hart-end.ensures in
    let eight : k.log.harts ≤ 8 = is.harts in
    omega arith

pub loop-hart-preserved : goal.loop-hart-preserved
loop-hart-preserved g c =
    let plan = c.args.plan.now in
    let k : Course = course g.P.Plan.planned plan in
    let is : Known k = known k (g.met.P.Plan.lawful plan) in
    let end : c.harts-hart-end.result ≡ k.log.harts = c.harts-hart-end.ensures in
    let eight : k.log.harts ≤ 8 = is.harts in
    let x : HartState = starting c.seek-next.result in
    let i : ℕ = c.loop-hart.hart in
    let same : length c.loop-hart.harts ≡ 8 = c.loop-hart.invariant.0 in
    let low : i < length c.loop-hart.harts = omega arith in
    let here : hart_in (slice_set c.loop-hart.harts i x) i ≡ x = get_or-set_same c.loop-hart.harts i x idle low in
    let fresh : (h : ℕ) → IsFresh (hart_in (slice_set c.loop-hart.harts i x) h) = (λ h. dite (ℕ_discrete h i)
    (λ e. subst (λ (z : ℕ). IsFresh (hart_in (slice_set c.loop-hart.harts i x) z)) (sym e) (subst IsFresh (sym here) (starts_fresh c.seek-next.result)))
    (λ ne. subst IsFresh (sym (get_or-set_other c.loop-hart.harts i h x idle ne)) (c.loop-hart.invariant.1 h))) in
    let kept : (h : ℕ) → h < i + 1 → IsKept k h (hart_in (slice_set c.loop-hart.harts i x) h) = (λ h l. dite (ℕ_discrete h i)
    (λ e. subst (λ (z : ℕ). IsKept k z (hart_in (slice_set c.loop-hart.harts i x) z)) (sym e) (subst (IsKept k i) (sym here)
    (starts_kept (g.P.Plan.planned plan) is i c.seek-next.result c.seek-next.ensures.from_one c.seek-next.ensures.within c.seek-next.ensures.count c.seek-next.ensures.there)))
    (λ ne. subst (IsKept k h) (sym (get_or-set_other c.loop-hart.harts i h x idle ne)) (c.loop-hart.invariant.2 h (let o : h ≡ i → ⊥ = ne in omega arith)))) in
    (length-set c.loop-hart.harts i x ∙ same, fresh, kept)
