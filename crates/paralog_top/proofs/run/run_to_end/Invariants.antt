use Rattle.std.proofs.Common.{◌≡◌, ◌-◌, suc, true, false, cond}
use Rattle.paralog_top.specs.Runs.{IsRunning, IsRunEnded}
use Rattle.paralog_top.proofs.run.run_to_end.Given as goal

abbrev pub invariant-steps : goal.invariant-steps
invariant-steps l = record {
  running : l.going ≡ true → IsRunning l.job l.machine;
  ended : l.going ≡ false → IsRunEnded l.job l.machine;
}

abbrev pub decreases-steps : goal.decreases-steps
decreases-steps l = cond l.going (suc (l.job.steps - l.machine.steps)) 0
