use Rattle.std.proofs.Common.{◌≡◌, ℕ, ◌+◌, ◌*◌, ◌/◌, ◌%◌, ◌<◌, Option, unwrap_or, arith, sym, ap, ◌∙◌}
use Rattle.lifeguard.specs.Shadow.{bytes_in}
use Rattle.report_text.proofs.runs.PagesNibbles.alike_end.Goals as goal

pub returns-clause-alike : goal.returns-clause-alike
returns-clause-alike g c = λ a from below.
    let bytes = bytes_in c.args.self.now.monitor.now.shadow.pages.items in
    let near : a < c.args.addr + c.cells_alike.result = omega arith in
    let here : c.args.addr / 4096 * 4096 + a % 4096 ≡ a = omega (arith, c.cells_alike.ensures.inside) in
    let first : c.args.addr / 4096 * 4096 + c.args.addr % 4096 ≡ c.args.addr = omega arith in
    let nibble = λ (byte : Option ℕ). unwrap_or byte 0 in
    ap nibble (sym (c.page-page.ensures.bytes (a % 4096) (omega arith) ∙ ap bytes here))
    ∙ c.cells_alike.ensures.alike (a % 4096) (omega (arith, c.cells_alike.ensures.inside)) (omega (arith, c.cells_alike.ensures.inside))
    ∙ ap nibble (c.page-page.ensures.bytes (c.args.addr % 4096) (omega arith) ∙ ap bytes first)
