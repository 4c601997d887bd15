use Rattle.std.proofs.Common.{◌∙◌, sym}
use Rattle.guest_mem.proofs.Pages.{texts-page, not_text}
use Rattle.guest_mem.proofs.memory.PagedMem.is_text.Goals as goal

pub returns-in-Some : goal.returns-in-Some
returns-in-Some c = c.is_text.ensures ∙ sym (texts-page _ _ _ (sym c.in-Some.ensures.page))

pub returns-in-None : goal.returns-in-None
returns-in-None c = sym (not_text _ _ (sym c.in-None.ensures.page))
