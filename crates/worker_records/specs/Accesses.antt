-- What a load leaves in its register, and a write in a seat's view.
use Rattle.std.specs.Prelude.{◌≡◌, ℕ, zero, suc, ◌≤◌, ◌==◌, bit_xor, if◌then◌else◌}
use Rattle.pl_base.specs.declared.layout.TheConstants.{BLOCK_BYTES}
use Rattle.lifeguard.specs.declared.guard.Name.{Name}
use Rattle.lifeguard.specs.declared.guard.Name.TheVariants as name
use Rattle.lifeguard.specs.Plain.{load_bits}
use Rattle.lifeguard.specs.Rules.{Rules}
use Rattle.guard_table.specs.declared.put.Put.{Put}
use Rattle.guard_table.specs.declared.put.Put.TheVariants.{Flip, Store}
use Rattle.guard_table.specs.declared.view.View.{View}
use Rattle.inherit_track.specs.declared.state.Held.{Held}
use Rattle.inherit_track.specs.declared.state.RegState.{RegState}
use Rattle.inherit_track.specs.declared.state.RegState.TheVariants as reg

-- the register of a load that finds no marked byte
abbrev pub unmarked : Rules → Held → RegState
unmarked rules from =
    let bit = rules.load_bit 0 in
    reg.Known (load_bits from.width bit bit bit bit)

abbrev pub loaded_by : Name → Rules → Held → RegState
loaded_by name.Addr rules from = unmarked rules from
loaded_by name.Taint rules from = reg.Held from
loaded_by name.Mem rules from = reg.Held from

-- the register of a load, where the directory's word of its page is this one
abbrev pub loaded_state : Rules → Held → ℕ → RegState
loaded_state rules from zero = unmarked rules from
loaded_state rules from (suc frame) = loaded_by rules.name rules from

-- the hart has performed writes, and nothing else
pub record HasWritten (v w : View) : Type 0 where
  pub same : w ≡ record v { written = w.written }
  pub more : v.written ≤ w.written

-- how a word becomes another, where blocks have so many bytes
abbrev pub put_of : ℕ → ℕ → ℕ → Put
put_of block word after = if block == BLOCK_BYTES then Store after else Flip (bit_xor word after)
