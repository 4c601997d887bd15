use Rattle.order_core.proofs.FedProgress.{hands_out}
use Rattle.order_core.proofs.KnownLaws as law
use Rattle.order_core.proofs.laws.fed_core_never_stuck.Goals as goal

pub returns-clause-opening : goal.returns-clause-opening
returns-clause-opening _ c known = law.opens_fed c known

pub returns-clause-step : goal.returns-clause-step
returns-clause-step _ c known f f' s st m = law.fed_step c known f s f' st m

pub returns-clause-moves : goal.returns-clause-moves
returns-clause-moves _ c known f st unfinished = law.fed_moves c known f st unfinished

pub returns-clause-handing_out : goal.returns-clause-handing_out
returns-clause-handing_out _ c f f' s out m = hands_out c f s f' out m
