use Rattle.std.proofs.Common.{◌+◌, ◌-◌, sym, ◌∙◌, refl, not, arith}
use Rattle.std.proofs.lemmas.Bool.{not_from_true, not_from_false}
use Rattle.log_text.specs.Pages.{holds_at}
use Rattle.log_text.proofs.PageLemmas.{some_page-found, some_page-passed, some_page-none}
use Rattle.log_text.proofs.page_set.some_unmarked.Goals as goal

pub returns-then-not-pages-page : goal.returns-then-not-pages-page
returns-then-not-pages-page c =
    sym (c.pages.invariant ∙ some_page-found (λ page. not (holds_at c.args.pages.now page)) c.pages.page (c.args.first + c.args.count - c.pages.page) (omega arith) (not_from_false _ c.if-not-pages-page.true))

pub pages-preserved : goal.pages-preserved
pages-preserved c =
    c.pages.invariant
    ∙ some_page-passed (λ page. not (holds_at c.args.pages.now page)) c.pages.page (c.pages.page + 1) (c.args.first + c.args.count - c.pages.page) (c.args.first + c.args.count - (c.pages.page + 1))
    refl (omega arith) (not_from_true _ c.if-not-pages-page.false)

pub returns : goal.returns
returns c = sym (c.pages.invariant ∙ some_page-none (λ page. not (holds_at c.args.pages.now page)) c.pages.page (c.args.first + c.args.count - c.pages.page) (omega arith))
