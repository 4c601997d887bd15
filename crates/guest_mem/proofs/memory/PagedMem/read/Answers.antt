use Rattle.std.proofs.Common.{◌≡◌, ◌+◌, ◌%◌, ◌/◌, arith, sym, ◌∙◌, ap, Some, get_or}
use Rattle.guest_mem.specs.Memory.{bytes}
use Rattle.guest_mem.proofs.Pages.{all_mapped, first_is_unmapped, not_mapped, mapped-page, bytes-page}
use Rattle.guest_mem.proofs.Numbers.{some_width, number_same}
use Rattle.guest_mem.proofs.memory.PagedMem.read.Goals as goal

pub returns-in-Some-clause-mapped : goal.returns-in-Some-clause-mapped
returns-in-Some-clause-mapped c = all_mapped _ _ _ (mapped-page _ _ _ (sym c.in-Some.ensures.page)) (omega arith)

pub returns-in-Some-clause-value : goal.returns-in-Some-clause-value
returns-in-Some-clause-value c =
    c.load.ensures.number ∙ number_same _ _ _ _ _ (λ k before.
    let same : (c.args.addr + k) / 4096 ≡ c.args.addr / 4096 = omega arith in
    let here : bytes c.args.self.now (c.args.addr + k) ≡ Some (get_or c.in-Some.page.now.bytes ((c.args.addr + k) % 4096) 0) = bytes-page _ (c.args.addr + k) c.in-Some.page.now (rw same (sym c.in-Some.ensures.page)) in
    rw here (ap (λ i. get_or c.in-Some.page.now.bytes i 0) (omega arith)))

pub returns-in-None-clause-fault : goal.returns-in-None-clause-fault
returns-in-None-clause-fault c = first_is_unmapped _ _ _ (not_mapped _ _ (sym c.in-None.ensures.page)) (some_width _ c.requires)
