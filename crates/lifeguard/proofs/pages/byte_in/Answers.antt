use Rattle.std.proofs.Common.{ℕ, ◌/◌, ◌%◌, List, sym, ap, ◌∙◌}
use Rattle.lifeguard.specs.Shadow.{bytes_of}
use Rattle.lifeguard.proofs.PageLemmas.{page_is, bytes_in-page, bytes_in_past}
use Rattle.lifeguard.proofs.pages.byte_in.Goals as goal

pub returns-then-number-pages : goal.returns-then-number-pages
returns-then-number-pages c =
    let page = c.cells.ensures.cells ∙ page_is c.args.pages.now (c.args.addr / 4096) c.index-pages-number.result c.if-number-pages.true c.index-pages-number.is in
    c.byte_at.ensures.value ∙ ap (λ (cells : List ℕ). bytes_of cells (c.args.addr % 4096)) page ∙ sym (bytes_in-page c.args.pages.now c.args.addr)

pub returns-else-number-pages : goal.returns-else-number-pages
returns-else-number-pages c = sym (bytes_in_past c.args.pages.now c.args.addr c.if-number-pages.false)
