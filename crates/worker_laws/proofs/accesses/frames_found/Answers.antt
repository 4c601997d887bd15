use Rattle.order_core.specs.Course.{course_of}
use Rattle.order_core.proofs.Known.{known}
use Rattle.worker_laws.proofs.Counting.{reach_calm}
use Rattle.worker_laws.proofs.Taking.{found_next}
use Rattle.worker_laws.proofs.Turning.{found_entered, found_now}
use Rattle.worker_laws.proofs.accesses.frames_found.Goals as goal

pub returns-clause-now : goal.returns-clause-now
returns-clause-now _ p h n page frame v parts c ready reach e = found_now p ready.run (known (course_of p.plan) ready.run.lawful) h v n parts ready.kept ready.next c reach page frame e

pub returns-clause-next : goal.returns-clause-next
returns-clause-next _ p run h n slots calm are = found_next p run (known (course_of p.plan) run.lawful) h n slots calm are

pub returns-clause-entered : goal.returns-clause-entered
returns-clause-entered _ p run h n page frame slots calm le small word are = found_entered p run (known (course_of p.plan) run.lawful) h n page frame slots calm le small word are

pub returns-clause-reaches : goal.returns-clause-reaches
returns-clause-reaches _ p h m c reach flush = reach_calm p h m c reach flush
