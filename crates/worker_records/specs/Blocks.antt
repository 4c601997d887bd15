-- The operations on one block of a range of bytes, and what is found in it.
use Rattle.std.specs.Prelude.{◌≡◌, ℕ, zero, suc, ◌+◌, ◌*◌, ◌-◌, ◌/◌, ◌<◌, ◌≤◌, List, length, max, min}
use Rattle.std.specs.Prelude.{Option, Some, None}
use Rattle.pl_base.specs.declared.layout.TheConstants.{BLOCK_BYTES, MAX_MAPPED_PAGES}
use Rattle.lifeguard.specs.declared.guard.RangeKind.{RangeKind}
use Rattle.lifeguard.specs.Rules.{Rules}
use Rattle.order_core.specs.Shapes.{Shape}
use Rattle.guard_table.specs.declared.view.View.{View}
use Rattle.shadow_frames.specs.Words.{nibble_of}
use Rattle.shadow_layout.specs.Operations.{block_directory, block_word, change_block}
use Rattle.worker_records.specs.declared.blocks.BlockFound.{BlockFound}
use Rattle.worker_records.specs.declared.ranges.ByteRange.{ByteRange}
use Rattle.worker_records.specs.Shapes.{made}

abbrev pub found_at : (ℕ → ℕ) → ℕ → ℕ → ℕ
found_at w block zero = 0
found_at w block (suc frame) = w (block_word w block)

-- the word of a block, or 0 where its page is not mapped
abbrev pub found_in : (ℕ → ℕ) → ℕ → ℕ
found_in w block = found_at w block (w (block_directory block))

-- the page of a block has one of the frames or none, and the block's nibbles are below 8
pub record IsSoundBlock (w : ℕ → ℕ) (block : ℕ) : Type 0 where
  pub low : w (block_directory block) ≤ MAX_MAPPED_PAGES
  pub nibbles : (i : ℕ) → i < BLOCK_BYTES → nibble_of (found_in w block) i < 8

-- a block's operations are made, and its word was found
pub record IsMadeBlock (ss : List Shape) (word : ℕ) (v u : View) (found : BlockFound) : Type 0 where
  pub view : u ≡ made ss v
  pub operations : found.operations ≡ length ss
  pub word_is : found.word ≡ word

-- the bytes of a range that a block has
abbrev pub part_of : ByteRange → ℕ → ByteRange
part_of range block =
    let from = max range.addr (BLOCK_BYTES * block) in
    let until = min (range.addr + range.len) (BLOCK_BYTES * block + BLOCK_BYTES) in
    record { addr = from; len = until - from }

-- the operations of an event that changes these bytes, all of one block
abbrev pub part_shapes : Rules → RangeKind → (ℕ → ℕ) → ByteRange → List Shape
part_shapes rules kind w part =
    change_block (λ i old. rules.range_state kind old) part.addr part.len w (part.addr / BLOCK_BYTES)

-- the first byte of those before, or else of those here
abbrev pub or_else : Option ℕ → Option ℕ → Option ℕ
or_else None here = here
or_else (Some addr) here = Some addr
