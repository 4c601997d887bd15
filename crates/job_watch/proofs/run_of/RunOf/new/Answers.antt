use Rattle.job_watch.proofs.run_of.RunOf.new.Goals as goal

pub invariant_of-result : goal.invariant_of-result
invariant_of-result c = record {
  one = c.recorded_runs.ensures.one c.args.job.now;
  there = ∣ c.run_logs.ensures.log c.args.job.now c.requires ∣₁;
}
