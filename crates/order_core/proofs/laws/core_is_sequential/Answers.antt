use Rattle.order_core.proofs.KnownLaws as law
use Rattle.order_core.proofs.laws.core_is_sequential.Goals as goal

pub returns-clause-opening : goal.returns-clause-opening
returns-clause-opening _ c known = law.opens c known

pub returns-clause-step : goal.returns-clause-step
returns-clause-step _ c known k k' h act st m = law.step c known k st h act k' m

pub returns-clause-reads : goal.returns-clause-reads
returns-clause-reads _ c known k st h p a may j four covered = law.read_finds c known k st h p a may j four covered

pub returns-clause-writes : goal.returns-clause-writes
returns-clause-writes _ c known k st h p a next j four covered = law.write_finds c known k st h p a next j four covered

pub returns-clause-last : goal.returns-clause-last
returns-clause-last _ c known k st end w j low high four = law.finishes c known k st end w j low high four
