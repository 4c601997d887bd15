use Rattle.std.proofs.Common.{arith, ◌/◌, None}
use Rattle.guest_mem.proofs.Whole.{directory_of_none, none_mapped}
use Rattle.std.proofs.Math.Path.{fun_ext}
use Rattle.guest_mem.proofs.Pages.{bytes-unmapped, not_text, everywhere}
use Rattle.guest_mem.proofs.memory.PagedMem.new.Goals as goal

pub invariant_of-result : goal.invariant_of-result
invariant_of-result c = directory_of_none c.loop.pages.items c.loop.counter (omega arith) c.loop.invariant

pub returns : goal.returns
returns c =
    let none = none_mapped c.loop.pages.items c.loop.counter c.loop.invariant in
    record {
      bytes = fun_ext (λ k. bytes-unmapped _ k (none (k / 4096)));
      mapped = fun_ext none;
      texts = fun_ext (λ k. not_text _ k (everywhere c.loop.pages.items c.loop.counter k None c.loop.invariant));
    }
