use Rattle.std.proofs.Common.{sym, ap, subst}
use Rattle.pl_event.specs.declared.log.Log.{Log}
use Rattle.core_sim.specs.declared.job.Job.{Job}
use Rattle.run_record.specs.Recorded.{IsLogOfRun}
use Rattle.run_log.proofs.Picking.{picked_is}
use Rattle.job_watch.specs.declared.phase.Phase.TheVariants as phase
use Rattle.job_watch.specs.Runs.{lines_from, picked}
use Rattle.job_watch.specs.Sources.{IsFeeding}
use Rattle.job_watch.proofs.job_feed.JobFeed.new.Goals as goal

pub invariant_of-result : goal.invariant_of-result
invariant_of-result c =
    let source = c.in_ok-new.field-0 in
    let has = c.run_logs.ensures.log c.args.job.now c.requires in
    subst (λ (j : Job). IsFeeding j 0 phase.Going source.recording source.heads source.step.items source.handed) (sym c.new.ensures)
    (record { log = has.log; log_of_run = has.of_run; is_in = c.in_ok-new.ensures has.log has.of_run })

pub returns : goal.returns
returns c log is =
    let run = c.new.result in
    ap (λ (l : Log). lines_from l 0) (picked_is run.job.now run.one (picked run.job.now run.one run.there) log (subst (λ (j : Job). IsLogOfRun j log) (sym c.new.ensures) is))
