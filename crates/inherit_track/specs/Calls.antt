-- The calls that change the states of registers, the latest first.
use Rattle.std.specs.Prelude.{◌≡◌, ◌≢◌, ◌⊎◌, ℕ, List, [], ◌∷◌}
use Rattle.inherit_track.specs.declared.state.Held.{Held}
use Rattle.inherit_track.specs.declared.state.RegState.{RegState}
use Rattle.inherit_track.specs.declared.state.RegState.TheVariants as reg
use Rattle.inherit_track.specs.States.{with_state, IsResolved}

pub data Call : Type 0 where
  Load : (rd : ℕ) (from : Held) → Call
  Copy : (rd rs : ℕ) → Call
  Set : (rd mask : ℕ) → Call
  Resolve : (from : Held) (mask : ℕ) → Call

-- what one call makes of the states
abbrev pub Changes : Call → (ℕ → RegState) → (ℕ → RegState) → Type 0
Changes (Load rd from) old new = (r : ℕ) → new r ≡ with_state old rd (reg.Held from) r
Changes (Copy rd rs) old new = (r : ℕ) → new r ≡ with_state old rd (old rs) r
Changes (Set rd mask) old new = (r : ℕ) → new r ≡ with_state old rd (reg.Known mask) r
Changes (Resolve from mask) old new = IsResolved from mask old new

-- the states after the calls
abbrev pub LeadTo : List Call → (ℕ → RegState) → Type 0
LeadTo [] states = (r : ℕ) → states r ≡ reg.Known 0
LeadTo (call ∷ calls) states = (before : ℕ → RegState) × LeadTo calls before × Changes call before states

-- a load of this source, which was not resolved since
abbrev pub IsLoaded : Held → List Call → Type 0
IsLoaded from [] = ⊥
IsLoaded from (Load rd source ∷ calls) = (source ≡ from) ⊎ IsLoaded from calls
IsLoaded from (Copy rd rs ∷ calls) = IsLoaded from calls
IsLoaded from (Set rd mask ∷ calls) = IsLoaded from calls
IsLoaded from (Resolve source mask ∷ calls) = (source ≢ from) × IsLoaded from calls
