use Rattle.std.proofs.Common.{ℕ, ◌/◌, ◌%◌, List, arith, ap, ◌∙◌}
use Rattle.lifeguard.specs.Shadow.{bytes_of}
use Rattle.lifeguard.specs.Plain.{loaded_mask}
use Rattle.lifeguard.proofs.PageLemmas.{page_is, loaded_mask-page}
use Rattle.lifeguard.proofs.pages.loaded_mask_on_page.Goals as goal

pub returns : goal.returns
returns g c =
    let page = c.cells-cells.ensures.cells ∙ page_is c.args.pages.now (c.args.addr / 4096) c.index-pages-addr.result (omega (arith, c.requires.inside)) c.index-pages-addr.is in
    c.loaded_mask.ensures ∙ ap (λ (cells : List ℕ). loaded_mask (g.L.Lifeguard.rules c.args.guard) c.args.width (bytes_of cells) (c.args.addr % 4096)) page
    ∙ loaded_mask-page (g.L.Lifeguard.rules c.args.guard) c.args.width c.args.pages.now c.args.addr c.requires.within
