use Rattle.order_core.proofs.FreedLemmas.{needs_told, passed}
use Rattle.order_core.proofs.KnownLaws as law
use Rattle.order_core.proofs.laws.freed_harts.Goals as goal

pub returns-clause-needs : goal.returns-clause-needs
returns-clause-needs _ c k st h ended u n m need low = needs_told c k st h ended u n m need low

pub returns-clause-freed : goal.returns-clause-freed
returns-clause-freed _ c known k st h ended = law.frees c known k st h ended

pub returns-clause-passed : goal.returns-clause-passed
returns-clause-passed _ c k st h ended = passed c k st h ended
