use Rattle.std.proofs.Common.{Bool, ℕ, refl, ap, ◌∙◌}
use Rattle.pl_base.specs.Pages.{count_below}
use Rattle.log_text.proofs.RuleLemmas.{breaks_page-counted}
use Rattle.log_text.proofs.judge.is_misplaced.Goals as goal

pub returns : goal.returns
returns c = λ before keeps.
    let mapped = c.count.ensures ∙ ap (λ (test : ℕ → Bool). count_below test 4096) keeps.mapped in
    rw (c.from-2.ensures, c.from-3.ensures, c.from.ensures)
    (breaks_page-counted before c.args.run c.args.tally.now.records c.args.tally.now.next_page c.count.result c.from-first.result c.args.run.count
    keeps.rows keeps.end mapped c.from-first.ensures refl)
