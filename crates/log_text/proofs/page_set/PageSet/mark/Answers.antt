use Rattle.std.proofs.Common.{◌≡◌, ◌+◌, ◌-◌, Bool, ℕ, ap, ◌∙◌, arith}
use Rattle.log_text.specs.Pages.{holds_at}
use Rattle.pl_base.specs.Pages.{marked}
use Rattle.pl_base.proofs.Pages.{marked_more}
use Rattle.log_text.proofs.page_set.PageSet.mark.Goals as goal

pub pages-preserved : goal.pages-preserved
pages-preserved c =
    let test : ℕ → Bool = holds_at c.args.self.now.pages.items in
    let from = c.from-from.result in
    let next : c.pages.page - from + 1 ≡ c.pages.page + 1 - from = omega arith in
    c.set.ensures
    ∙ ap (λ (t : ℕ → Bool). marked t c.pages.page 1 c.args.mapped) c.pages.invariant
    ∙ marked_more test from (c.pages.page - from) c.pages.page c.args.mapped (omega arith)
    ∙ ap (λ (n : ℕ). marked test from n c.args.mapped) next
