use Rattle.conflict_alerts.proofs.RunLogs.{placed_run, follows_again}
use Rattle.conflict_alerts.proofs.laws.placed_logs.Goals as goal

pub returns-clause-log : goal.returns-clause-log
returns-clause-log c = placed_run

pub returns-clause-again : goal.returns-clause-again
returns-clause-again c = follows_again
