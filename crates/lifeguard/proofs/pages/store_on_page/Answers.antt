use Rattle.std.proofs.Common.{arith}
use Rattle.lifeguard.specs.Plain.{mask_bit}
use Rattle.lifeguard.proofs.PageLemmas.{changed_on_page}
use Rattle.lifeguard.proofs.pages.store_on_page.Goals as goal

pub returns : goal.returns
returns g c =
    changed_on_page c.args.pages.now (λ i old. (g.L.Lifeguard.rules c.args.guard).store_nibble old (mask_bit c.args.mask i)) c.args.addr c.args.len c.index-pages-number.result c.store.new.self
    (omega (arith, c.requires.inside)) c.requires.within c.store.ensures
