use Rattle.std.proofs.Common.{◌≡◌, ℕ, suc, ◌+◌, List, [], ◌∷◌, ◌++◌, take, sym, ap, ◌∙◌, arith}
use Rattle.pl_event.specs.declared.log.Line.{Line}
use Rattle.pl_event.proofs.Before.{got}
use Rattle.pl_event.proofs.MappedPages.{take_next}
use Rattle.list_plan.proofs.copies.copied_lines.Goals as goal

pub loop-at-preserved : goal.loop-at-preserved
loop-at-preserved c =
    let e : suc c.loop-at.at ≡ c.loop-at.at + 1 = omega arith in
    c.in_ok-push.ensures.ok
    ∙ (ap (λ (xs : List Line). xs ++ c.get.result ∷ []) c.loop-at.invariant
    ∙ (sym (take_next c.args.lines.now c.loop-at.at c.get.result (got c.args.lines.now c.loop-at.at c.get.result c.get.ensures)) ∙ ap (λ (n : ℕ). take n c.args.lines.now) e))
