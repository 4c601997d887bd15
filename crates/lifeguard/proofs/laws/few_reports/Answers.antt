use Rattle.lifeguard.proofs.ReportLemmas.{reports_few}
use Rattle.lifeguard.proofs.laws.few_reports.Goals as goal

pub returns : goal.returns
returns c = reports_few
