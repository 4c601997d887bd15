use Rattle.std.proofs.Common.{◌≡◌, ℕ, ◌<◌, ◌≤◌, List, length, slice_index, slice_set, sym, ◌∙◌, subst, arith}
use Rattle.std.proofs.lemmas.List.{get_or-set_other, get_or-set_same, length-set}
use mathlib.Core.Logic.{dite}
use native.Mathlib.Decide.{ℕ_discrete}
use Rattle.order_core.specs.declared.course.Course.{Course}
use Rattle.order_core.specs.Course.{course}
use Rattle.order_core.specs.FedCore.{FedCore}
use Rattle.order_core.specs.Feeds.{IsFedCursor}
use Rattle.order_core.specs.inner.KeptFed.{fed_now}
use Rattle.order_core.proofs.FedProgress.{fed_cursor}
use Rattle.order_core.proofs.Known.{Known, known}
use Rattle.order_core.proofs.fed_run.taken_cursors.Goals as goal

pub loop-hart-preserved : goal.loop-hart-preserved
loop-hart-preserved g c =
    let plan = c.args.plan.now in
    let k : Course = course g.P.Plan.planned plan in
    let is : Known k = known k (g.met.P.Plan.lawful plan) in
    let end : c.harts-hart-end.result ≡ k.log.harts = c.harts-hart-end.ensures in
    let eight : k.log.harts ≤ 8 = is.harts in
    let f : FedCore = fed_now c.args.state.now in
    let i : ℕ = c.loop-hart.hart in
    let x : ℕ = c.min.result in
    let here : IsFedCursor k f i x = subst (IsFedCursor k f i) (sym c.min.ensures) (fed_cursor k f i c.cursor_now-passed.result c.cursor_now-passed.ensures) in
    let cursors : List ℕ = c.loop-hart.cursors in
    let same : length cursors ≡ 8 = c.loop-hart.invariant.0 in
    let low : i < length cursors = omega arith in (
      length-set cursors i x ∙ same,
      (λ h l. let ne : h ≡ i → ⊥ = (λ e. omega arith) in get_or-set_other cursors i h x 0 ne ∙ c.loop-hart.invariant.1 h (omega arith)),
      λ h l. dite (ℕ_discrete h i)
          (λ e. subst (λ (z : ℕ). IsFedCursor k f z (slice_index (slice_set cursors i x) z)) (sym e) (subst (IsFedCursor k f i) (sym (get_or-set_same cursors i x 0 low)) here))
          (λ ne. subst (IsFedCursor k f h) (sym (get_or-set_other cursors i h x 0 ne)) (c.loop-hart.invariant.2 h (let o : h ≡ i → ⊥ = ne in omega arith))),
    )
