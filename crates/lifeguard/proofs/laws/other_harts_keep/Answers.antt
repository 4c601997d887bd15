use Rattle.lifeguard.proofs.OtherHarts.{other_masks, other_reports}
use Rattle.lifeguard.proofs.laws.other_harts_keep.Goals as goal

pub returns-clause-masks : goal.returns-clause-masks
returns-clause-masks c = other_masks

pub returns-clause-reports : goal.returns-clause-reports
returns-clause-reports c = other_reports
