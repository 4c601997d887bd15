use Rattle.std.specs.Borrow.{Lends, MutBor, Fml}
use Rattle.guest_mem.specs.contracts.memory.PagedMem.{the_row as memory_row}
use Rattle.guest_kernel.specs.contracts.kernel.Kernel.{the_row as kernel_row}
use Rattle.std.specs.Prelude.{List, Option}
use Rattle.guest_mem.specs.Image.{PageImage}
use Rattle.guest_kernel.specs.Image.{KernelImage}

-- the kernel ends with the memory that the loan left, and else as it was
abbrev pub LendsMemory : MutBor KernelImage → MutBor (List (Option PageImage)) → Fml
LendsMemory kernel memory = Lends kernel_row memory_row kernel memory (λ w. record kernel.now { memory = w })
