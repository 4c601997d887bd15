use Rattle.guest_mem.proofs.Whole.{kept}
use Rattle.guest_mem.proofs.memory.PagedMem.fill.Goals as goal

pub invariant_of-self : goal.invariant_of-self
invariant_of-self c = kept _ _ _ _ _ c.self.invariant c.deref_mut.ensures.value c.deref_mut.ensures.len c.put_all.auto.pages c.put_all.ensures.mapped
