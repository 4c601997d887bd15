use Rattle.std.proofs.Common.{◌∙◌}
use Rattle.run_record.proofs.Upgrading.{notice_passed}
use Rattle.run_record.proofs.upgrade.Upgrade.take.Goals as goal

pub returns-in-Notice : goal.returns-in-Notice
returns-in-Notice c log line is may = notice_passed log c.args.self.now line c.in-Notice.hart c.in-Notice.of (is ∙ c.in-Notice.is) may.upgraded
