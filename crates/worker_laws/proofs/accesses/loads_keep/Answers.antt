use Rattle.std.proofs.Common.{◌+◌, refl}
use Rattle.lifeguard.specs.Plain.{loaded_mask}
use Rattle.order_core.specs.Course.{course_of}
use Rattle.order_core.proofs.Known.{known}
use Rattle.inherit_track.specs.declared.state.RegState.TheVariants as reg
use Rattle.worker_laws.specs.Runs.{before}
use Rattle.worker_laws.proofs.Loading.{held_load, kept_load}
use Rattle.worker_laws.proofs.Steady.{nibble_below}
use Rattle.worker_laws.proofs.Taking.{clear_mask}
use Rattle.worker_laws.proofs.accesses.loads_keep.Goals as goal

pub returns-clause-known : goal.returns-clause-known
returns-clause-known _ p h n rd rb addr width v parts after ready is states found counted = kept_load p ready.run (known (course_of p.plan) ready.run.lawful) h v n parts ready.kept ready.next width rd rb addr is (reg.Known (loaded_mask p.rules width (before p h (n + 1)).state.bytes addr)) after refl states found counted

pub returns-clause-held : goal.returns-clause-held
returns-clause-held _ p h n rd rb addr width v parts after ready is other some states found counted =
    kept_load p ready.run (known (course_of p.plan) ready.run.lawful) h v n parts ready.kept ready.next width rd rb addr is (reg.Held (record { addr = addr; width = width; number = n + 1 })) after (held_load p ready.run (known (course_of p.plan) ready.run.lawful) h v n parts ready.kept ready.next width rd rb addr is other some) states found counted

pub returns-clause-clear : goal.returns-clause-clear
returns-clause-clear _ p run name m addr width = clear_mask p.rules run.laws name (p.moment m).state.bytes (λ a. nibble_below (p.moment m).state.bytes (run.range m).nibbles a) width addr
