use Rattle.std.specs.Prelude.{◌≡◌, ℕ, ◌+◌, ◌-◌, ◌/◌, ◌<◌, ◌≤◌, List, length, slice_index}
use Rattle.guest_heap.specs.declared.holes.Hole.{Hole}
use Rattle.guest_heap.specs.Holes.{IsApart, In}
use Rattle.pl_base.specs.declared.layout.TheConstants.{UNIT_BYTES, HEAP_UNITS}

-- how many units a block of an asked size takes
abbrev pub units : ℕ → ℕ
units size = (size + (UNIT_BYTES - 1)) / UNIT_BYTES

-- a block takes a unit
pub record Takes (sizes : List ℕ) (block unit : ℕ) : Type 0 where
  pub live : 0 < slice_index sizes block
  pub from : block ≤ unit
  pub before : unit < block + units (slice_index sizes block)

-- each unit of the heap lies in one hole or is taken by one block, and the holes are apart
pub record IsTiled (sizes : List ℕ) (holes : List Hole) : Type 0 where
  pub all_units : length sizes ≡ HEAP_UNITS
  pub apart : IsApart 0 holes
  pub in_heap : (unit : ℕ) → In holes unit → unit < HEAP_UNITS
  pub blocks_fit : (block unit : ℕ) → Takes sizes block unit → unit < HEAP_UNITS
  pub one_block : (block other unit : ℕ) → Takes sizes block unit → Takes sizes other unit → block ≡ other
  pub no_block : (block unit : ℕ) → In holes unit → Takes sizes block unit → ⊥
  pub covered : (unit : ℕ) → unit < HEAP_UNITS → ((block : ℕ) → Takes sizes block unit → ⊥) → In holes unit
