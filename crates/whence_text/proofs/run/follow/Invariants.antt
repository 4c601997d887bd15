use Rattle.std.proofs.Common.{◌≡◌, ◌-◌, suc, true, false, cond}
use Rattle.whence_text.specs.Following.{IsFollowed, IsFollowedWhole}
use Rattle.whence_text.proofs.run.follow.Given as goal

abbrev pub invariant-steps : goal.invariant-steps
invariant-steps l = record {
  followed : l.going ≡ true → IsFollowed l.pairs l.job l.machine l.trail;
  whole : l.going ≡ false → IsFollowedWhole l.pairs l.job l.trail;
}

abbrev pub decreases-steps : goal.decreases-steps
decreases-steps l = cond l.going (suc (l.job.steps - l.machine.steps)) 0
