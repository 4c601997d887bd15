use Rattle.order_core.specs.Course.{course_of}
use Rattle.order_core.proofs.Known.{known}
use Rattle.order_core.proofs.KnownLaws as law
use Rattle.order_core.proofs.TurnLemmas.{opened}
use Rattle.order_core.proofs.laws.open_reads.Goals as goal

pub returns-clause-opened : goal.returns-clause-opened
returns-clause-opened _ plan lawful k h m i o turn reads = opened plan (known (course_of plan) lawful) k h m i o turn reads

pub returns-clause-kept : goal.returns-clause-kept
returns-clause-kept _ c known k st h p a may s k' m leaves = law.stays_open c known k st h p a may s k' m leaves
