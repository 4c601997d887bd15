use Rattle.std.proofs.Common.{rules}
use Rattle.conflict_alerts.proofs.Counting.{counts_more}
use Rattle.conflict_alerts.proofs.placer.Placer.add.Goals as goal

pub returns-clause-counts : goal.returns-clause-counts
returns-clause-counts c g counts = counts_more c.args.self.now.records g c.args.line c.record_hart.result c.record_hart.ensures (search rules) (search rules) counts
