use Rattle.order_core.proofs.KnownLaws as law
use Rattle.order_core.proofs.laws.never_stuck.Goals as goal

pub returns-clause-moves : goal.returns-clause-moves
returns-clause-moves _ c known k st unfinished = law.moves c known k st unfinished

pub returns-clause-bound : goal.returns-clause-bound
returns-clause-bound _ c known steps k r more k' m = law.few_moves c known steps k r more k' m
