use Rattle.log_check.proofs.Positions.{event_of_line, not_notice}
use Rattle.log_check.proofs.Watching.{still_watched}
use Rattle.log_check.proofs.alerts.AlertWatch.pass.Goals as goal

pub returns-in-Event : goal.returns-in-Event
returns-in-Event c harts g i flow tells next watched = c.take.ensures harts g i _ flow tells (event_of_line g i _ _ c.args.line.now c.in-Event.event next c.in-Event.is) watched

pub returns-in-Notice : goal.returns-in-Notice
returns-in-Notice c harts g i flow tells next watched = still_watched g i c.args.self.now (not_notice g i c.args.line.now c.in-Notice.hart c.in-Notice.of next.at c.in-Notice.is) watched
