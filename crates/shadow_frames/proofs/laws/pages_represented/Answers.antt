use Rattle.shadow_frames.proofs.MappedPages.{pages_is, no_page, some_page}
use Rattle.shadow_frames.proofs.laws.pages_represented.Goals as goal

pub returns-clause-count : goal.returns-clause-count
returns-clause-count _ w bytes st = pages_is w bytes st

pub returns-clause-unmapped : goal.returns-clause-unmapped
returns-clause-unmapped _ w bytes st page lt e = no_page w bytes st page lt e

pub returns-clause-mapped : goal.returns-clause-mapped
returns-clause-mapped _ w bytes st page lt e = some_page w bytes st page lt e
