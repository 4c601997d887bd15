-- The least number of a source, found register by register.
use Rattle.std.specs.Prelude.{◌≡◌, ℕ, ◌≤◌, List, Option, Some, None, min}
use Rattle.std.specs.Int.{bit_at}
use Rattle.inherit_track.specs.declared.state.Held.{Held}
use Rattle.inherit_track.specs.declared.state.RegState.{RegState}
use Rattle.inherit_track.specs.declared.state.RegState.TheVariants as reg
use Rattle.inherit_track.specs.States.{state_in}

-- the lower one of the number and that of the state's source
abbrev pub older_of : Option ℕ → RegState → Option ℕ
older_of least (reg.Known mask) = least
older_of None (reg.Held from) = Some from.number
older_of (Some number) (reg.Held from) = Some (min number from.number)

-- of the registers outside a set none is held, or this is the least number of a source
abbrev pub IsOldestBut : ℕ → List RegState → Option ℕ → Type 0
IsOldestBut left states None = (r : ℕ) (from : Held) → bit_at left r ≡ 0 → state_in states r ≡ reg.Held from → ⊥
IsOldestBut left states (Some number) =
    ((r : ℕ) × (from : Held) × (state_in states r ≡ reg.Held from) × (from.number ≡ number))
    × ((r : ℕ) (from : Held) → bit_at left r ≡ 0 → state_in states r ≡ reg.Held from → number ≤ from.number)
