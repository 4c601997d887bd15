use Rattle.order_core.specs.Course.{course_of}
use Rattle.order_core.proofs.Known.{known}
use Rattle.worker_laws.proofs.Turning.{kept_alert}
use Rattle.worker_laws.proofs.records.alert_events_keep.Goals as goal

pub returns : goal.returns
returns _ p h n i kind v w parts after ready told is alert nothing near small at none =
    kept_alert p ready.run (known (course_of p.plan) ready.run.lawful) h v n parts ready.kept w i kind after is alert nothing ready.next.within near small at none told
