use Rattle.std.proofs.Common.{◌+◌, ◌-◌, sym, ◌∙◌, refl, arith}
use Rattle.log_text.specs.Pages.{holds_at}
use Rattle.log_text.proofs.PageLemmas.{some_page-found, some_page-passed, some_page-none}
use Rattle.log_text.proofs.page_set.some_marked.Goals as goal

pub returns-then-pages-page : goal.returns-then-pages-page
returns-then-pages-page c =
    sym (c.pages.invariant ∙ some_page-found (holds_at c.args.pages.now) c.pages.page (c.args.first + c.args.count - c.pages.page) (omega arith) c.if-pages-page.true)

pub pages-preserved : goal.pages-preserved
pages-preserved c =
    c.pages.invariant
    ∙ some_page-passed (holds_at c.args.pages.now) c.pages.page (c.pages.page + 1) (c.args.first + c.args.count - c.pages.page) (c.args.first + c.args.count - (c.pages.page + 1))
    refl (omega arith) c.if-pages-page.false

pub returns : goal.returns
returns c = sym (c.pages.invariant ∙ some_page-none (holds_at c.args.pages.now) c.pages.page (c.args.first + c.args.count - c.pages.page) (omega arith))
