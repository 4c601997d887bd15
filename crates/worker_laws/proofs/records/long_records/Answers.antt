use Rattle.order_core.specs.Course.{course_of}
use Rattle.order_core.proofs.Known.{known}
use Rattle.worker_laws.proofs.Passing.{after_read, after_write, may_read, may_write, no_more}
use Rattle.worker_laws.proofs.Taking.{come}
use Rattle.worker_laws.proofs.records.long_records.Goals as goal

pub returns-clause-first : goal.returns-clause-first
returns-clause-first _ p h n v parts ready = come p ready.run (known (course_of p.plan) ready.run.lawful) h v n ready.kept.taken ready.next

pub returns-clause-read : goal.returns-clause-read
returns-clause-read _ p run h m kind from low is v done rest s split come w = may_read p run (known (course_of p.plan) run.lawful) h m kind from low is done s rest split v come w

pub returns-clause-after_read : goal.returns-clause-after_read
returns-clause-after_read _ p run h m kind from low is v done rest s split come w = after_read p run (known (course_of p.plan) run.lawful) h m kind from low is done s rest split v come w

pub returns-clause-write : goal.returns-clause-write
returns-clause-write _ p run h m kind from low is v done rest s split come w = may_write p run (known (course_of p.plan) run.lawful) h m kind from low is done s rest split v come w

pub returns-clause-after_write : goal.returns-clause-after_write
returns-clause-after_write _ p run h m kind from low is v done rest s split come w = after_write p run (known (course_of p.plan) run.lawful) h m kind from low is done s rest split v come w

pub returns-clause-last : goal.returns-clause-last
returns-clause-last _ p run h m kind from low is = no_more p run (known (course_of p.plan) run.lawful) h m kind from low is
