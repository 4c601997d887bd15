use Rattle.std.proofs.Common.{◌≡◌, ◌+◌, set, sym, arith, rules}
use Rattle.log_text.specs.Pages.{holds_at}
use Rattle.pl_base.specs.Pages.{count_below}
use Rattle.log_text.proofs.PageLemmas.{count_set}
use Rattle.pl_base.proofs.Pages.{count_below-le}
use Rattle.log_text.proofs.page_set.PageSet.set.Goals as goal

-- the count before and after, at a page that is mapped
mapped_more : (c : goal.Then-mapped) → count_below (holds_at (set c.args.self.now.pages.items c.args.page c.args.mapped)) 4096 ≡ c.args.self.now.mapped + 1
mapped_more c =
    let after = count_set c.args.self.now.pages.items 4096 c.args.page c.index-was.result.now c.args.mapped c.args.self.now.all_pages c.requires c.index-was.ensures c.if-was-mapped.false in
    let counted : c.args.self.now.mapped ≡ count_below (holds_at c.args.self.now.pages.items) 4096 = c.args.self.now.counted in
    let at_true = rw c.if-mapped.true at after in
    rw c.if-mapped.true (omega (arith, at_true, counted))

-- and at one that is unmapped
mapped_less : (c : goal.Else-mapped) → count_below (holds_at (set c.args.self.now.pages.items c.args.page c.args.mapped)) 4096 + 1 ≡ c.args.self.now.mapped
mapped_less c =
    let after = count_set c.args.self.now.pages.items 4096 c.args.page c.index-was.result.now c.args.mapped c.args.self.now.all_pages c.requires c.index-was.ensures c.if-was-mapped.false in
    let counted : c.args.self.now.mapped ≡ count_below (holds_at c.args.self.now.pages.items) 4096 = c.args.self.now.counted in
    let at_false = rw c.if-mapped.false at after in
    rw c.if-mapped.false (omega (arith, at_false, counted))

pub overflow_add-self : goal.overflow_add-self
overflow_add-self c = omega (arith, mapped_more c, count_below-le (holds_at (set c.args.self.now.pages.items c.args.page c.args.mapped)) 4096)

pub invariant_of-self : goal.invariant_of-self
invariant_of-self c = record { all_pages = search rules; counted = sym (mapped_more c) }

pub overflow_sub-self : goal.overflow_sub-self
overflow_sub-self c = omega (arith, mapped_less c)

pub invariant_of-self-else-mapped : goal.invariant_of-self-else-mapped
invariant_of-self-else-mapped c = record { all_pages = search rules; counted = omega (arith, mapped_less c) }
