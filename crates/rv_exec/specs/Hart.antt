-- What a hart keeps between instructions.
use Rattle.std.specs.Prelude.{ℕ, zero, suc, ◌+◌, ◌*◌, List, slice_index, slice_set, replicate}
use Rattle.pl_base.specs.declared.layout.TheConstants.{STACKS_START, STACK_BYTES}

-- the address of the next instruction, and the registers x0 to x31
pub record Hart : Type 0 where
  pub pc : ℕ
  pub registers : List ℕ

-- what a register holds
abbrev pub x : Hart → ℕ → ℕ
x h r = slice_index h.registers r

-- the registers after a write, which x0 does not take
abbrev pub written : ℕ → ℕ → List ℕ → List ℕ
written zero v registers = registers
written (suc r) v registers = slice_set registers (suc r) v

-- where the stack of a hart ends
abbrev pub stack_end : ℕ → ℕ
stack_end hart = STACKS_START + (hart + 1) * STACK_BYTES

-- a hart at its entry: sp is x2, a0 is x10, and all other registers are 0
abbrev pub started : ℕ → ℕ → Hart
started pc hart = record { pc = pc; registers = slice_set (slice_set (replicate 32 0) 2 (stack_end hart)) 10 hart }
