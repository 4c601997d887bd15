use Rattle.std.proofs.Common.{◌∙◌}
use Rattle.guest_mem.proofs.Pages.{mapped_read}
use Rattle.guest_mem.proofs.memory.PagedMem.maps.Goals as goal

pub returns-clause-mapped : goal.returns-clause-mapped
returns-clause-mapped c = c.is_some.ensures ∙ mapped_read _ _ _ c.page.ensures.page
