use Rattle.std.proofs.Common.{sym}
use Rattle.run_log.proofs.Picking.{picked_block}
use Rattle.job_watch.specs.Runs.{picked}
use Rattle.job_watch.proofs.job_plan.JobPlanPlan.block.Goals as goal

pub returns : goal.returns
returns g c = let run = c.args.self.now.run in sym (picked_block run.job.now run.one (picked run.job.now run.one run.there))
