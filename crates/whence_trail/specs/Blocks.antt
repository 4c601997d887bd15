-- The blocks of the heap as allocations and frees leave them.
use Rattle.std.specs.Prelude.{ℕ, ◌+◌, ◌*◌, ◌/◌, ◌==◌, ◌&&◌, Bool, not, nat_le, nat_lt, List, [], ◌∷◌, ◌++◌, fold, map, Option, Some, None, is_none, if◌then◌else◌}
use Rattle.std.specs.List.{filter}
use Rattle.std.specs.Option.{option_map}
use Rattle.pl_event.specs.declared.event.Kind.{Kind}
use Rattle.pl_event.specs.declared.event.Kind.TheVariants.{Al, Fr}
use Rattle.whence_trail.specs.declared.block.Block.{Block}
use Rattle.whence_trail.specs.declared.happening.Happening.{Happening}
use Rattle.whence_trail.specs.declared.happening.Origin.{Origin}

-- the first address after a block, whose size as asked for is rounded up to a multiple of 16
abbrev pub end_of : Block → ℕ
end_of block = block.addr + (block.len + 15) / 16 * 16

abbrev pub holds : Block → ℕ → Bool
holds block addr = nat_le block.addr addr && nat_lt addr (end_of block)

-- a block that was just allocated
abbrev pub allocated : ℕ → ℕ → Origin → Block
allocated addr len origin = record { addr = addr; len = len; allocated = origin; freed = None }

-- a free of the block at an address is the end of the one that is live
abbrev pub freed_by : ℕ → Origin → Block → Block
freed_by addr origin block =
    if (block.addr == addr) && is_none block.freed then record block { freed = Some origin } else block

-- the block that has an address, after one more event
abbrev pub holder_by : Kind → Origin → ℕ → Option Block → Option Block
holder_by (Al at len) origin addr before =
    if holds (allocated at len origin) addr then Some (allocated at len origin) else before
holder_by (Fr at len) origin addr before = option_map (freed_by at origin) before
holder_by _ origin addr before = before

-- the block of the latest allocation whose range has an address, as frees have left it
abbrev pub holder : List Happening → ℕ → Option Block
holder [] addr = None
holder (x ∷ before) addr = holder_by x.kind x.origin addr (holder before addr)

-- ---- the same in a list of blocks, the latest last

-- the last of the blocks that has an address
abbrev pub latest_in : List Block → ℕ → Option Block
latest_in blocks addr = fold (λ found block. if holds block addr then Some block else found) None blocks

-- each address of the other block is the block's
abbrev pub covers : Block → Block → Bool
covers block other = nat_le block.addr other.addr && nat_le (end_of other) (end_of block)

-- one more block, without those that it covers
abbrev pub with_block : List Block → Block → List Block
with_block blocks block = filter (λ other. not (covers block other)) blocks ++ block ∷ []

abbrev pub blocks_by : Kind → Origin → List Block → List Block
blocks_by (Al at len) origin blocks = with_block blocks (allocated at len origin)
blocks_by (Fr at len) origin blocks = map (freed_by at origin) blocks
blocks_by _ origin blocks = blocks

abbrev pub blocks_after : List Block → Happening → List Block
blocks_after blocks x = blocks_by x.kind x.origin blocks
