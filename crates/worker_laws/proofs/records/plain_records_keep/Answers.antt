use Rattle.order_core.specs.Course.{course_of}
use Rattle.order_core.proofs.Known.{known}
use Rattle.worker_laws.proofs.Taking.{kept_addr_op, kept_bf, kept_br, kept_ex, kept_ft, kept_im, kept_jr, kept_mv, kept_op}
use Rattle.worker_laws.proofs.records.plain_records_keep.Goals as goal

pub returns-clause-copy : goal.returns-clause-copy
returns-clause-copy _ p h n rd rs v parts after ready told lt is = kept_mv p ready.run (known (course_of p.plan) ready.run.lawful) h v n parts after ready.kept ready.next told rd rs lt is

pub returns-clause-join : goal.returns-clause-join
returns-clause-join _ p h n rd r1 r2 a b v parts after ready told lt1 lt2 ea eb is = kept_op p ready.run (known (course_of p.plan) ready.run.lawful) h v n parts after ready.kept ready.next told rd r1 r2 a b lt1 lt2 ea eb is

pub returns-clause-clear : goal.returns-clause-clear
returns-clause-clear _ p h n rd r1 r2 v parts after ready told addr is = kept_addr_op p ready.run (known (course_of p.plan) ready.run.lawful) h v n parts after ready.kept ready.next told rd r1 r2 addr is

pub returns-clause-constant : goal.returns-clause-constant
returns-clause-constant _ p h n rd v parts after ready told is = kept_im p ready.run (known (course_of p.plan) ready.run.lawful) h v n parts after ready.kept ready.next told rd is

pub returns-clause-jump : goal.returns-clause-jump
returns-clause-jump _ p h n rd rs v parts after ready told is = kept_jr p ready.run (known (course_of p.plan) ready.run.lawful) h v n parts after ready.kept ready.next told rd rs is

pub returns-clause-bad_free : goal.returns-clause-bad_free
returns-clause-bad_free _ p h n addr v parts after ready told is = kept_bf p ready.run (known (course_of p.plan) ready.run.lawful) h v n parts after ready.kept ready.next told addr is

pub returns-clause-branch : goal.returns-clause-branch
returns-clause-branch _ p h n r1 r2 v parts after ready told is = kept_br p ready.run (known (course_of p.plan) ready.run.lawful) h v n parts after ready.kept ready.next told r1 r2 is

pub returns-clause-exit : goal.returns-clause-exit
returns-clause-exit _ p h n v parts after ready told is = kept_ex p ready.run (known (course_of p.plan) ready.run.lawful) h v n parts after ready.kept ready.next told is

pub returns-clause-fault : goal.returns-clause-fault
returns-clause-fault _ p h n addr cause v parts after ready told is = kept_ft p ready.run (known (course_of p.plan) ready.run.lawful) h v n parts after ready.kept ready.next told cause addr is
