use Rattle.order_core.specs.Course.{course_of}
use Rattle.order_core.proofs.Known.{known}
use Rattle.worker_laws.proofs.Turning.{kept_advertised, kept_learnt, kept_looked, may_advertise}
use Rattle.worker_laws.proofs.held.seat_steps_keep.Goals as goal

pub returns-clause-looks : goal.returns-clause-looks
returns-clause-looks _ p run h n u seen v parts kept le = kept_looked p run (known (course_of p.plan) run.lawful) h v n parts kept u seen le

pub returns-clause-learns : goal.returns-clause-learns
returns-clause-learns _ p run h n note v parts kept = kept_learnt p run (known (course_of p.plan) run.lawful) h v n parts kept note

pub returns-clause-passed : goal.returns-clause-passed
returns-clause-passed _ p run h n upto v parts kept le = may_advertise p run (known (course_of p.plan) run.lawful) h v n parts kept upto le

pub returns-clause-advertises : goal.returns-clause-advertises
returns-clause-advertises _ p run h n upto v parts kept le lag low = kept_advertised p run (known (course_of p.plan) run.lawful) h v n parts kept upto le lag low
