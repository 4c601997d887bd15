use Rattle.std.proofs.Common.{◌≡◌, ◌-◌, ◌*◌, None, arith, sym, ap, ◌∙◌}
use Rattle.lifeguard.specs.Shadow.{bytes_of, bytes_in}
use Rattle.lifeguard.specs.State.{nothing}
use Rattle.lifeguard.proofs.CellLemmas.{replaced-written}
use Rattle.lifeguard.proofs.PageLemmas.{pages_more, cleared}
use Rattle.lifeguard.proofs.pages.unmap_pages.Goals as goal

pub loop-number-preserved : goal.loop-number-preserved
loop-number-preserved c =
    pages_more None c.loop-number.pages c.args.page c.loop-number.number c.clear.new.self (bytes_in c.args.pages.now) nothing (omega arith) (omega arith) c.loop-number.invariant (ap bytes_of c.clear.ensures ∙ cleared)

pub returns : goal.returns
returns c =
    let all : c.loop-number.number - c.args.page ≡ c.args.count = omega arith in
    (rw all at c.loop-number.invariant) ∙ sym (replaced-written None (c.args.page * 4096) (c.args.count * 4096) (bytes_in c.args.pages.now))
