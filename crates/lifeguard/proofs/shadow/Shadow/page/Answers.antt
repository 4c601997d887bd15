use Rattle.std.proofs.Common.{ℕ, List, arith, ap, ◌∙◌}
use Rattle.lifeguard.specs.Shadow.{bytes_of}
use Rattle.lifeguard.proofs.PageLemmas.{page_is, bytes_in-at}
use Rattle.lifeguard.proofs.shadow.Shadow.page.Goals as goal

pub returns-clause-bytes : goal.returns-clause-bytes
returns-clause-bytes c = λ a below.
    let page = c.cells.ensures.cells ∙ page_is c.args.self.now.pages.items c.args.page c.index.result.now (omega (arith, c.requires, c.args.self.now.whole)) c.index.ensures in
    ap (λ (cells : List ℕ). bytes_of cells a) page ∙ bytes_in-at c.args.self.now.pages.items c.args.page a below
