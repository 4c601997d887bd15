use Rattle.pl_event.proofs.Noticed.{noticed_path, alert_path}
use Rattle.pl_event.proofs.order.noticed_paths.Goals as goal

pub returns-clause-pair : goal.returns-clause-pair
returns-clause-pair c harts lines flow = noticed_path harts 16 lines flow

pub returns-clause-alert : goal.returns-clause-alert
returns-clause-alert c harts size lines flow = alert_path harts size lines flow
