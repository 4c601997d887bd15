use Rattle.conflict_alerts.proofs.Placed.{same_events, one_more}
use Rattle.conflict_alerts.proofs.laws.placed_events.Goals as goal

pub returns-clause-events : goal.returns-clause-events
returns-clause-events c = same_events

pub returns-clause-next : goal.returns-clause-next
returns-clause-next c = one_more
