-- The states of registers.
use Rattle.std.specs.Prelude.{◌≡◌, ◌≢◌, ℕ, ◌+◌, ◌<◌, ◌≤◌, ◌==◌, List, replicate, slice_index_or, if◌then◌else◌}
use Rattle.pl_base.specs.declared.layout.TheConstants.{MEMORY_BYTES, REGISTERS}
use Rattle.pl_base.specs.Widths.{load_bytes}
use Rattle.inherit_track.specs.declared.state.Held.{Held}
use Rattle.inherit_track.specs.declared.state.RegState.{RegState}
use Rattle.inherit_track.specs.declared.state.RegState.TheVariants as reg

-- the state of a register
abbrev pub state_in : List RegState → ℕ → RegState
state_in states r = slice_index_or states r (reg.Known 0)

abbrev pub all_clear : List RegState
all_clear = replicate REGISTERS (reg.Known 0)

-- the states of registers with this one for rd, which register 0 does not take
abbrev pub with_state : (ℕ → RegState) → ℕ → RegState → ℕ → RegState
with_state states rd state r = if rd == 0 then states r else if r == rd then state else states r

-- a mask is below 16, an address below 2^24
abbrev pub IsInRange : RegState → Type 0
IsInRange (reg.Known mask) = mask < 16
IsInRange (reg.Held from) = from.addr < MEMORY_BYTES

-- register 0 is clear, and each state is in range
pub record AreSound (states : List RegState) : Type 0 where
  pub zero : state_in states 0 ≡ reg.Known 0
  pub range : (r : ℕ) → IsInRange (state_in states r)

-- the registers with this source have this mask, and the others are as they were
pub record IsResolved (from : Held) (mask : ℕ) (old new : ℕ → RegState) : Type 0 where
  pub known : (r : ℕ) → old r ≡ reg.Held from → new r ≡ reg.Known mask
  pub others : (r : ℕ) → old r ≢ reg.Held from → new r ≡ old r

-- a byte of the source lies in the block
abbrev pub LiesIn : ℕ → ℕ → Held → Type 0
LiesIn start block from = (from.addr < start + block) × (start < from.addr + load_bytes from.width)

-- a register is held, and a byte of its source lies in the block
abbrev pub HoldsIn : List RegState → ℕ → ℕ → Type 0
HoldsIn states start block =
    (r : ℕ) × (from : Held) × (state_in states r ≡ reg.Held from) × LiesIn start block from

-- some register is held
abbrev pub HoldsSome : List RegState → Type 0
HoldsSome states = (r : ℕ) × (from : Held) × (state_in states r ≡ reg.Held from)

-- the least number of a source that is held
pub record IsOldest (states : List RegState) (number : ℕ) : Type 0 where
  pub held : (r : ℕ) × (from : Held) × (state_in states r ≡ reg.Held from) × (from.number ≡ number)
  pub least : (r : ℕ) (from : Held) → state_in states r ≡ reg.Held from → number ≤ from.number
