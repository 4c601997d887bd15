use Rattle.std.proofs.Common.{ap}
use Rattle.order_core.specs.Course.{course_of}
use Rattle.order_core.proofs.Known.{known}
use Rattle.worker_laws.specs.Runs.{kind_of}
use Rattle.worker_laws.proofs.Turning.{kept_notice}
use Rattle.worker_laws.proofs.records.notices_keep.Goals as goal

pub returns : goal.returns
returns _ p h n i hart line point v parts ready is what nothing = kept_notice p ready.run (known (course_of p.plan) ready.run.lawful) h v n parts ready.kept ready.next i line is (ap kind_of what) nothing
