use Rattle.std.proofs.Common.{ℕ, ◌/◌, ◌%◌, List, Option, arith, sym, ap, ◌∙◌}
use Rattle.lifeguard.specs.Shadow.{bytes_of}
use Rattle.lifeguard.proofs.PageLemmas.{page_is, bytes_in-page}
use Rattle.std.proofs.Common.{unwrap_or}
use Rattle.lifeguard.proofs.pages.nibble_in.Goals as goal

pub returns-clause-value : goal.returns-clause-value
returns-clause-value c =
    let page = c.cells.ensures.cells ∙ page_is c.args.pages.now (c.args.addr / 4096) c.index-pages-addr.result (omega (arith, c.requires)) c.index-pages-addr.is in
    c.nibble_at.ensures.value
    ∙ ap (λ (byte : Option ℕ). unwrap_or byte 0) (ap (λ (cells : List ℕ). bytes_of cells (c.args.addr % 4096)) page ∙ sym (bytes_in-page c.args.pages.now c.args.addr))
