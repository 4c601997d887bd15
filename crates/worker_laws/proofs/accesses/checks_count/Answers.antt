use Rattle.std.proofs.Common.{◌+◌, refl}
use Rattle.order_core.specs.Course.{course_of}
use Rattle.order_core.proofs.Known.{known}
use Rattle.worker_laws.specs.Runs.{reports_before}
use Rattle.worker_laws.proofs.Counting.{counted_fail, counted_hit, counted_pass, counted_taint, hit_right}
use Rattle.worker_laws.proofs.accesses.checks_count.Goals as goal

pub returns-clause-hit : goal.returns-clause-hit
returns-clause-hit _ p h n v parts c ready is hit = hit_right p ready.run (known (course_of p.plan) ready.run.lawful) h v n parts (reports_before p h (n + 1 + 1)) ready.kept ready.next refl c is hit

pub returns-clause-counted : goal.returns-clause-counted
returns-clause-counted _ p h n v parts c after ready told is hit = counted_hit p ready.run (known (course_of p.plan) ready.run.lawful) h v n parts after ready.kept ready.next told c is hit

pub returns-clause-passes : goal.returns-clause-passes
returns-clause-passes _ p h n v parts c after ready told is miss pass = counted_pass p ready.run (known (course_of p.plan) ready.run.lawful) h v n parts after ready.kept ready.next told c is miss pass

pub returns-clause-fails : goal.returns-clause-fails
returns-clause-fails _ p h n a v parts c after ready told is miss bad = counted_fail p ready.run (known (course_of p.plan) ready.run.lawful) h v n parts after ready.kept ready.next told c is a miss bad

pub returns-clause-unchecked : goal.returns-clause-unchecked
returns-clause-unchecked _ p h n v parts c after ready told reach taint = counted_taint p ready.run (known (course_of p.plan) ready.run.lawful) h v n parts after ready.kept ready.next told c reach taint
