use Rattle.conflict_alerts.proofs.Placed.{all_noticed}
use Rattle.conflict_alerts.proofs.laws.placed_notices.Goals as goal

pub returns : goal.returns
returns c = all_noticed
