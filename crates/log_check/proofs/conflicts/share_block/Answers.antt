use Rattle.std.proofs.Common.{◌↔◌, IsTrue, Option, subst}
use Rattle.pl_event.specs.Conflicts.{Access, ShareBlock}
use Rattle.log_check.proofs.conflicts.share_block.Goals as goal

pub returns : goal.returns
returns c lines event n part = subst (λ (z : Option Access × Option Access). IsTrue c.is_shared.result ↔ ShareBlock z.0 z.1)
    (λ d. (c.block_in.ensures lines event n part d, c.block_of.ensures d)) c.is_shared.ensures
