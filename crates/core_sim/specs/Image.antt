use Rattle.std.specs.Prelude.{ℕ, List}
use Rattle.guest_kernel.specs.Image.{KernelImage}
use Rattle.core_sim.specs.declared.job.Item.{Item}
use Rattle.core_sim.specs.declared.hart.Standing.{Standing}
use Rattle.core_sim.specs.declared.turn.Turn.{Turn}

-- what a machine keeps: the text, the kernel, each hart, the turns of a list, the turn that goes on, and the steps
pub record MachineImage : Type 0 where
  pub words : List ℕ
  pub kernel : KernelImage
  pub harts : List Standing
  pub items : List Item
  pub turn : Turn
  pub limit : ℕ
  pub steps : ℕ
