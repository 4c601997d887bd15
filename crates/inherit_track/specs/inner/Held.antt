-- The registers that are held, as a set.
use Rattle.std.specs.Prelude.{ℕ, Bool, true, false, List, map}
use Rattle.std.specs.Simd.Lanes.{mask_l}
use Rattle.inherit_track.specs.declared.state.RegState.{RegState}
use Rattle.inherit_track.specs.declared.state.RegState.TheVariants as reg

abbrev pub is_held : RegState → Bool
is_held (reg.Known mask) = false
is_held (reg.Held from) = true

-- the word whose bit r is 1 exactly where register r is held
abbrev pub held_bits : List RegState → ℕ
held_bits states = mask_l (map is_held states)
