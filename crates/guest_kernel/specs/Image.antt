use Rattle.std.specs.Prelude.{ℕ, List, Option}
use Rattle.guest_mem.specs.Image.{PageImage}

-- what a kernel keeps: the pages, the asked size of the block at each unit of the heap, the input left and the output
pub record KernelImage : Type 0 where
  pub memory : List (Option PageImage)
  pub heap : List ℕ
  pub input : List ℕ
  pub output : List ℕ
