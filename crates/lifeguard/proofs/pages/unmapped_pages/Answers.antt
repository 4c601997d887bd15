use Rattle.lifeguard.proofs.PageLemmas.{bytes_in-empty}
use Rattle.lifeguard.proofs.pages.unmapped_pages.Goals as goal

pub returns-clause-unmapped : goal.returns-clause-unmapped
returns-clause-unmapped c = bytes_in-empty c.loop.counter c.loop.pages.items c.loop.invariant
