use Rattle.std.proofs.Common.{arith}
use Rattle.lifeguard.proofs.PageLemmas.{changed_on_page}
use Rattle.lifeguard.proofs.pages.change_on_page.Goals as goal

pub returns : goal.returns
returns g c =
    changed_on_page c.args.pages.now (λ i old. (g.L.Lifeguard.rules c.args.guard).range_state c.args.kind old) c.args.addr c.args.len c.index-pages-number.result c.change.new.self
    (omega (arith, c.requires.inside)) c.requires.within c.change.ensures
