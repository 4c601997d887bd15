use Rattle.std.proofs.Common.{◌≡◌, ℕ, ◌<◌, ◌≤◌, List, length, slice_index, slice_set, sym, ◌∙◌, subst, arith}
use Rattle.std.proofs.lemmas.List.{get_or-set_other, get_or-set_same, length-set}
use mathlib.Core.Logic.{dite}
use native.Mathlib.Decide.{ℕ_discrete}
use Rattle.order_core.specs.declared.course.Course.{Course}
use Rattle.order_core.specs.declared.state.HartState.{HartState}
use Rattle.order_core.specs.Course.{course}
use Rattle.order_core.specs.States.{hart_in}
use Rattle.order_core.proofs.Known.{Known, known}
use Rattle.order_core.specs.Core.{IsCursor}
use Rattle.order_core.proofs.run.cursors_now.Goals as goal

pub loop-hart-preserved : goal.loop-hart-preserved
loop-hart-preserved g c =
    let plan = c.args.plan.now in
    let k : Course = course g.P.Plan.planned plan in
    let is : Known k = known k (g.met.P.Plan.lawful plan) in
    let end : c.harts-hart-end.result ≡ k.log.harts = c.harts-hart-end.ensures in
    let eight : k.log.harts ≤ 8 = is.harts in
    let i : ℕ = c.loop-hart.hart in
    let x : ℕ = c.cursor_now.result in
    let cursors : List ℕ = c.loop-hart.cursors in
    let same : length cursors ≡ 8 = c.loop-hart.invariant.0 in
    let low : i < length cursors = omega arith in (
      length-set cursors i x ∙ same,
      (λ h l. let ne : h ≡ i → ⊥ = (λ e. omega arith) in get_or-set_other cursors i h x 0 ne ∙ c.loop-hart.invariant.1 h (omega arith)),
      λ h l. let own : HartState = hart_in c.args.harts.now h in dite (ℕ_discrete h i)
          (λ e. subst (λ (z : ℕ). IsCursor k (hart_in c.args.harts.now z).written (slice_index (hart_in c.args.harts.now z).seen) z (slice_index (slice_set cursors i x) z)) (sym e)
          (subst (IsCursor k (hart_in c.args.harts.now i).written (slice_index (hart_in c.args.harts.now i).seen) i) (sym (get_or-set_same cursors i x 0 low)) c.cursor_now.ensures))
          (λ ne. subst (IsCursor k own.written (slice_index own.seen) h) (sym (get_or-set_other cursors i h x 0 ne)) (c.loop-hart.invariant.2 h (let o : h ≡ i → ⊥ = ne in omega arith))),
    )
