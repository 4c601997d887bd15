use Rattle.std.proofs.Common.{◌≡◌, ℕ, ◌<◌, ◌≤◌, sym, ◌∙◌, arith, subst}
use Rattle.order_core.specs.declared.course.Course.{Course}
use Rattle.order_core.specs.Course.{course, length_of}
use Rattle.order_core.specs.Lawful.{IsInside}
use Rattle.order_core.proofs.Known.{Known, known}
use Rattle.order_core.proofs.Named.{op_none}
use Rattle.order_core.proofs.moves.named.Goals.{then-harts-hart-via-then-harts-hart, then-harts-hart-via-else-harts-hart+then-number-eq0, then-harts-hart-via-else-harts-hart+else-number-eq0+then-len-number}
use Rattle.order_core.proofs.moves.named.Goals as goal

pub returns-then-harts-hart-clause-none : goal.returns-then-harts-hart-clause-none
returns-then-harts-hart-clause-none g c _ p a at name =
    let plan = c.args.plan.now in
    let k : Course = course g.P.Plan.planned plan in
    let is : Known k = known k (g.met.P.Plan.lawful plan) in
    let inside : IsInside k a = is.inside p a at in
    let low : c.args.hart < k.log.harts = subst (λ (z : ℕ). z < k.log.harts) name.0 inside.hart in
    let from : 1 ≤ c.args.number = subst (λ (z : ℕ). 1 ≤ z) name.1 inside.from_one in
    let top : c.args.number ≤ length_of k c.args.hart = subst (λ (z : ℕ × ℕ). z.1 ≤ length_of k z.0) (λ i. (name.0 i, name.1 i)) inside.number in
    let harts : c.harts.result ≡ k.log.harts = c.harts.ensures in
    elim c.then-harts-hart.branch [
      | then-harts-hart-via-then-harts-hart w ↦ omega arith
      | then-harts-hart-via-else-harts-hart+then-number-eq0 w ↦ omega arith
      | then-harts-hart-via-else-harts-hart+else-number-eq0+then-len-number w ↦ let len : w.len.result ≡ length_of k c.args.hart = w.len.ensures in omega arith
    ]

pub returns-clause-none : goal.returns-clause-none
returns-clause-none g c none p a at name =
    let plan = c.args.plan.now in
    op_none (g.P.Plan.planned plan) c.args.hart c.args.number c.args.op (sym c.op.ensures ∙ none) p a at name
