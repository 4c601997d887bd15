use Rattle.std.proofs.Common.{◌≡◌, ◌≤◌, length, lt_of_not-le, refl, arith}
use Rattle.job_watch.proofs.Steps.{none_left}
use Rattle.job_watch.proofs.source.Source.next.Goals as goal

pub returns-then-self-len : goal.returns-then-self-len
returns-then-self-len c job log at is = (c.hand_out.ensures.first job log at is, c.hand_out.ensures.at job log at is)

pub returns-in-Ok-true : goal.returns-in-Ok-true
returns-in-Ok-true c job log at is =
    let now = c.in-Ok-true.ensures.at job log at is (cc) in
    (c.hand_out-in-Ok-true.ensures.first job log at now, c.hand_out-in-Ok-true.ensures.at job log at now)

pub returns-in-Ok-false : goal.returns-in-Ok-false
returns-in-Ok-false c job log at is = none_left log at (c.in-Ok-false.ensures.end job log at is (cc))
