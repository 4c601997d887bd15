use Rattle.std.proofs.Common.{◌+◌, ◌-◌, ◌/◌, ◌%◌, arith, sym, ap, ◌∙◌}
use Rattle.std.specs.Prelude.{option_map}
use Rattle.lifeguard.specs.Checks.{is_bad}
use Rattle.lifeguard.proofs.PageLemmas.{page_is, first_bad-page}
use Rattle.lifeguard.proofs.pages.first_bad_on_page.Goals as goal

pub returns-in-Some : goal.returns-in-Some
returns-in-Some g c =
    let page = c.cells-cells.ensures.cells ∙ page_is c.args.pages.now (c.args.addr / 4096) c.index-pages-addr.result (omega (arith, c.requires.inside)) c.index-pages-addr.is in
    sym (first_bad-page (is_bad (g.L.Lifeguard.rules c.args.guard) c.args.check) c.args.pages.now c.args.addr c.args.len c.cells-cells.result.now page c.requires.within
    ∙ ap (option_map (λ a. c.args.addr - c.args.addr % 4096 + a)) (sym c.first_bad.ensures.first ∙ c.in-Some.is))

pub returns-in-None : goal.returns-in-None
returns-in-None g c =
    let page = c.cells-cells.ensures.cells ∙ page_is c.args.pages.now (c.args.addr / 4096) c.index-pages-addr.result (omega (arith, c.requires.inside)) c.index-pages-addr.is in
    sym (first_bad-page (is_bad (g.L.Lifeguard.rules c.args.guard) c.args.check) c.args.pages.now c.args.addr c.args.len c.cells-cells.result.now page c.requires.within
    ∙ ap (option_map (λ a. c.args.addr - c.args.addr % 4096 + a)) (sym c.first_bad.ensures.first ∙ c.in-None.is))
