-- How an address lies to blocks.
use Rattle.std.specs.Prelude.{ℕ, zero, suc, ◌+◌, ◌-◌, Option, Some, None}
use Rattle.std.specs.Option.{option_map}
use Rattle.whence_trail.specs.declared.block.Block.{Block}
use Rattle.whence_trail.specs.declared.happening.Happening.{Happening}
use Rattle.whence_trail.specs.declared.near.Near.{Near}
use Rattle.whence_trail.specs.declared.near.Near.TheVariants.{In, After}
use Rattle.whence_trail.specs.declared.trail.Found.{Found}
use Rattle.whence_trail.specs.Happenings.{address_of}

abbrev pub or_else : Option Block → Option Block → Option Block
or_else None other = other
or_else (Some block) other = Some block

-- the block that has the nearest of so many addresses below an address
abbrev pub below : (ℕ → Option Block) → ℕ → ℕ → Option Block
below held zero addr = None
below held (suc n) addr = or_else (held (addr - 1)) (below held n (addr - 1))

abbrev pub in_or_after : ℕ → Option Block → Option Block → Option Near
in_or_after addr (Some block) under = Some (In block (addr - block.addr))
in_or_after addr None under = option_map (λ block. After block (addr - (block.addr + block.len))) under

-- in the block that has the address, or else after the nearest one that has an address of the 64 below
abbrev pub near_by : (ℕ → Option Block) → ℕ → Option Near
near_by held addr = in_or_after addr (held addr) (below held 64 addr)

abbrev pub near_of : (ℕ → Option Block) → Option ℕ → Option Near
near_of held None = None
near_of held (Some addr) = near_by held addr

-- what is found at an event, by the block that has each address before it
abbrev pub found_by : (ℕ → Option Block) → Happening → Found
found_by held x = record { origin = x.origin; near = near_of held (address_of x.kind) }
