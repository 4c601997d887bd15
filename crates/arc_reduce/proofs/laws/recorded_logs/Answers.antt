use Rattle.arc_reduce.proofs.Lawful.{lawful}
use Rattle.arc_reduce.proofs.laws.recorded_logs.Goals as goal

pub returns : goal.returns
returns c = lawful
