-- What TaintCheck makes of nibbles and masks: bit 2 says that a byte came from outside.
use Rattle.std.specs.Prelude.{ℕ, ◌/◌, ◌%◌, Bool, true, false, ◌==◌, List, [], ◌∷◌}
use Rattle.pl_event.specs.declared.event.Kind.{Kind}
use Rattle.pl_event.specs.declared.event.Kind.TheVariants as event
use Rattle.lifeguard.specs.declared.guard.Name.TheVariants.{Taint}
use Rattle.lifeguard.specs.declared.guard.RangeKind.{RangeKind}
use Rattle.lifeguard.specs.declared.guard.RangeKind.TheVariants.{Al, Fr, Rd}
use Rattle.lifeguard.specs.Calls.{call_registers}
use Rattle.lifeguard.specs.Rules.{Rules, all_or_none}

-- a stored byte is marked as the register's byte is
abbrev pub taint_store : ℕ → Bool → ℕ
taint_store old true = 4
taint_store old false = 0

-- a block that is taken or freed keeps what its bytes are
abbrev pub taint_range : RangeKind → ℕ → ℕ
taint_range Al old = old
taint_range Fr old = old
taint_range Rd old = 4

-- a jump's register, and the registers that a kernel call reads
abbrev pub taint_checked : Kind → List ℕ
taint_checked (event.Jr rd rs) = rs ∷ []
taint_checked kind = call_registers kind

-- no access and no value is bad
abbrev pub taint_rules : Rules
taint_rules = record {
  name = Taint;
  page_state = λ kind. 0;
  load_bit = λ nibble. (nibble / 4 % 2) == 1;
  store_nibble = taint_store;
  range_state = taint_range;
  bad_access = λ nibble. false;
  bad_value = λ nibble. false;
  checked = taint_checked;
  joins = all_or_none;
}
