use Rattle.std.proofs.Common.{◌≡◌, ◌+◌, ◌-◌, ◌<◌, arith, ◌∙◌, sym, ap, length}
use Rattle.guest_mem.proofs.Pages.{mapped_within}
use Rattle.guest_mem.proofs.Whole.{unmapped}
use Rattle.guest_mem.proofs.memory.PagedMem.unmap.Goals as goal

pub clear-requires : goal.clear-requires
clear-requires c = λ k from before.
    let is = c.self.view_is in
    let same : length c.deref_mut.result.now ≡ length c.args.self.now = ap length c.deref_mut.ensures.value ∙ ap length is in
    let within : k < length c.args.self.now = mapped_within _ _ (c.if-not-all_mapped.ensures k from (omega arith)) in
    omega arith

pub overflow_sub-self : goal.overflow_sub-self
overflow_sub-self c =
    (unmapped c.self.inside.pages.items _ _ _ c.self.inside.pages.len _ _ _ c.from-3.result _ c.self.invariant c.self.view_is c.deref_mut.ensures.value c.deref_mut.ensures.len c.clear.auto.pages
    c.if-not-all_mapped.ensures (c.from-2.ensures ∙ sym c.from.ensures) (c.from-3.ensures ∙ sym c.from.ensures) c.clear.ensures.mapped).0

pub invariant_of-self : goal.invariant_of-self
invariant_of-self c =
    (unmapped c.self.inside.pages.items _ _ _ c.self.inside.pages.len _ _ _ c.from-3.result _ c.self.invariant c.self.view_is c.deref_mut.ensures.value c.deref_mut.ensures.len c.clear.auto.pages
    c.if-not-all_mapped.ensures (c.from-2.ensures ∙ sym c.from.ensures) (c.from-3.ensures ∙ sym c.from.ensures) c.clear.ensures.mapped).1

pub returns-clause-in_range : goal.returns-clause-in_range
returns-clause-in_range c = λ some.
    let last = c.args.page + (c.args.count - 1) in
    let within : last < length c.args.self.now = mapped_within _ last (c.if-not-all_mapped.ensures last (omega arith) (omega arith)) in
    let same : length c.args.self.now ≡ 4096 = sym (ap length c.self.view_is) ∙ c.self.invariant.all_pages in
    omega arith
