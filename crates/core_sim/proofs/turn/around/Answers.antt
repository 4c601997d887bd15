use Rattle.std.proofs.Common.{sym}
use Rattle.core_sim.proofs.Lives.{find_none}
use Rattle.core_sim.proofs.turn.around.Goals as goal

pub returns-in_err-hart-in-None : goal.returns-in_err-hart-in-None
returns-in_err-hart-in-None c = rw c.from_residual.ensures (find_none _ (sym c.in_err-hart-in-None.ensures.first))
