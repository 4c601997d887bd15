use Rattle.guest_mem.proofs.Pages.{everywhere}
use Rattle.guest_mem.proofs.page.Page.zeros.Goals as goal

pub returns-clause-zeros : goal.returns-clause-zeros
returns-clause-zeros c = λ k. everywhere c.in_ok-bytes.bytes.items 4096 k 0 (c.in_ok-bytes.ensures.items_if_clones_equal (λ y h. h))
