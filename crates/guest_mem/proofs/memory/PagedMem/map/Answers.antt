use Rattle.std.proofs.Common.{arith, ◌∙◌, sym}
use Rattle.guest_mem.proofs.Whole.{remapped}
use Rattle.guest_mem.proofs.memory.PagedMem.map.Goals as goal

pub invariant_of-self-2 : goal.invariant_of-self-2
invariant_of-self-2 c =
    remapped c.self.inside.pages.items _ _ _ c.self.inside.pages.len _ _ _ c.from-2.result c.from-4.result _ c.self.invariant c.self.view_is c.deref_mut.ensures.value c.deref_mut.ensures.len c.install.auto.pages
    (omega arith) c.if-any_mapped.ensures (c.from-3.ensures ∙ sym c.from.ensures) (c.from-2.ensures ∙ sym c.from.ensures) (c.from-4.ensures ∙ sym c.from.ensures)
    c.if-self-from-gt-MAX_MAPPED_PAGES.false c.in_ok-install.ensures.mapped
