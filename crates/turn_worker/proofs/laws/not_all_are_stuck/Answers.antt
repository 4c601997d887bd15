use Rattle.turn_worker.proofs.StuckLemmas.{all_through}
use Rattle.turn_worker.proofs.laws.not_all_are_stuck.Goals as goal

pub returns : goal.returns
returns g _ c ws crew heard stuck k w here = all_through g.W.TurnWorker.view g.met.W.TurnWorker.sound c ws crew heard stuck k w here
