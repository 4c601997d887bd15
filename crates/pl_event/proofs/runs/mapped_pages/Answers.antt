use Rattle.std.proofs.Common.{refl}
use Rattle.pl_event.proofs.MappedPages.{mapped_next, mapped_inside, mapped_few}
use Rattle.pl_event.proofs.runs.mapped_pages.Goals as goal

pub returns-clause-first : goal.returns-clause-first
returns-clause-first c = λ log. refl

pub returns-clause-next : goal.returns-clause-next
returns-clause-next c = mapped_next

pub returns-clause-inside : goal.returns-clause-inside
returns-clause-inside c = mapped_inside

pub returns-clause-few : goal.returns-clause-few
returns-clause-few c = mapped_few
