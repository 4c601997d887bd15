use Rattle.order_core.specs.Course.{course_of}
use Rattle.order_core.proofs.Known.{known}
use Rattle.worker_laws.proofs.Loading.{kept_store, kept_unwritten, puts_flip, puts_store, write_next}
use Rattle.worker_laws.proofs.accesses.stores_keep.Goals as goal

pub returns-clause-write : goal.returns-clause-write
returns-clause-write _ p h n rv rb addr width v parts ready is other some = write_next p ready.run (known (course_of p.plan) ready.run.lawful) h v n parts ready.kept ready.next width rv rb addr is other some

pub returns-clause-written : goal.returns-clause-written
returns-clause-written _ p h n rv rb addr width v parts after ready is other some apart states found counted = kept_store p ready.run (known (course_of p.plan) ready.run.lawful) h v n parts ready.kept ready.next width rv rb addr is other some apart after states found counted

pub returns-clause-unwritten : goal.returns-clause-unwritten
returns-clause-unwritten _ p h n rv rb addr width v parts after ready is none states found counted = kept_unwritten p ready.run (known (course_of p.plan) ready.run.lawful) h v n parts ready.kept ready.next width rv rb addr is after none states found counted

pub returns-clause-store : goal.returns-clause-store
returns-clause-store _ p h n rv rb addr x at width v parts ready is other some has there block = puts_store p ready.run (known (course_of p.plan) ready.run.lawful) h v n parts ready.kept ready.next width rv rb addr is other some x has at there block

pub returns-clause-flip : goal.returns-clause-flip
returns-clause-flip _ p h n rv rb addr x at width v parts ready is other some has there = puts_flip p ready.run (known (course_of p.plan) ready.run.lawful) h v n parts ready.kept ready.next width rv rb addr is other some x has at there
