-- The refusal that each failure of a lower layer becomes.
use Rattle.guest_asm.specs.declared.cause.JobRefused.{JobRefused}
use Rattle.guest_asm.specs.declared.cause.JobRefused.TheVariants as job
use Rattle.log_text.specs.declared.stream.LogEnd.{LogEnd}
use Rattle.log_text.specs.declared.stream.LogEnd.TheVariants as log
use Rattle.pl_base.specs.declared.loops.ReadEnd.{ReadEnd}
use Rattle.pl_base.specs.declared.loops.ReadEnd.TheVariants as end
use Rattle.paralog_top.specs.declared.refusal.Refusal.{Refusal}
use Rattle.paralog_top.specs.declared.refusal.Refusal.TheVariants as refusal

abbrev pub refusal_of_end : ReadEnd → Refusal
refusal_of_end end.Fault = refusal.ReadFault
refusal_of_end end.TooLong = refusal.TooLong
refusal_of_end end.NoMemory = refusal.NoMemory

abbrev pub refusal_of_log : LogEnd → Refusal
refusal_of_log (log.Fault fault) = refusal.BadLog fault
refusal_of_log (log.Read end) = refusal_of_end end

abbrev pub refusal_of_job : JobRefused → Refusal
refusal_of_job (job.Fault fault) = refusal.BadJob fault
refusal_of_job job.NoMemory = refusal.NoMemory
