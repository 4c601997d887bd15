-- The registers that there are, of which all others are clear.
use Rattle.std.specs.Prelude.{◌≡◌, ℕ, nat_lt, if◌then◌else◌}
use Rattle.pl_base.specs.declared.layout.TheConstants.{REGISTERS}
use Rattle.inherit_track.specs.declared.state.RegState.{RegState}
use Rattle.inherit_track.specs.declared.state.RegState.TheVariants as reg

abbrev pub registers_of : (ℕ → RegState) → ℕ → RegState
registers_of states r = if nat_lt r REGISTERS then states r else reg.Known 0

-- what was known stays known
abbrev pub KeepsKnown : (ℕ → RegState) → (ℕ → RegState) → Type 0
KeepsKnown old new = (r mask : ℕ) → old r ≡ reg.Known mask → new r ≡ reg.Known mask
