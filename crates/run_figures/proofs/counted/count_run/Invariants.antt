use Rattle.std.proofs.Common.{◌≡◌, ◌-◌, suc, true, false, cond}
use Rattle.run_figures.specs.Counting.{IsCounted, IsCounting}
use Rattle.run_figures.proofs.counted.count_run.Given as goal

abbrev pub invariant-steps : goal.invariant-steps
invariant-steps l = record {
  counting : l.going ≡ true → IsCounting l.job l.recording l.tally;
  counted : l.going ≡ false → IsCounted l.job l.recording l.tally;
}

abbrev pub decreases-steps : goal.decreases-steps
decreases-steps l = cond l.going (suc (l.job.steps - l.recording.machine.steps)) 0
