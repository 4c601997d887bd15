use Rattle.std.proofs.Common.{ℕ, ◌∷◌, [], ◌++◌, ◌<◌, ◌^◌, List, length, sym, ap, ◌∙◌, arith}
use Rattle.std.proofs.lemmas.List.{take_all}
use Rattle.order_core.specs.declared.course.Course.{Course}
use Rattle.order_core.specs.Course.{course}
use Rattle.order_core.proofs.Known.{Known, known}
use Rattle.order_core.proofs.WordLemmas.{take_more}
use Rattle.order_core.proofs.opening.opening_words.Goals as goal

pub loop-i-preserved : goal.loop-i-preserved
loop-i-preserved g c =
    let plan = c.args.plan.now in
    c.in_ok-push-in-Some.ensures.items ∙ (ap (λ (z : List ℕ). z ++ c.in-Some.word ∷ []) c.loop-i.invariant ∙ take_more ((g.P.Plan.planned plan).opening) c.loop-i.i c.in-Some.word (sym c.in-Some.ensures))

pub returns : goal.returns
returns g c =
    let plan = c.args.plan.now in
    let k : Course = course g.P.Plan.planned plan in
    let is : Known k = known k (g.met.P.Plan.lawful plan) in
    let small : length ((g.P.Plan.planned plan).opening) < 2 ^ 32 = is.size in
    c.loop-i.invariant ∙ take_all c.loop-i.i ((g.P.Plan.planned plan).opening) (omega arith)
