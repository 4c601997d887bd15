-- What MemCheck makes of nibbles and masks: bit 0 says that a byte may be touched, bit 1 that it is defined.
use Rattle.std.specs.Prelude.{ℕ, ◌+◌, ◌*◌, ◌/◌, ◌%◌, Bool, true, false, not, ◌&&◌, ◌==◌, List, [], ◌∷◌}
use Rattle.pl_event.specs.declared.event.Kind.{Kind}
use Rattle.pl_event.specs.declared.event.Kind.TheVariants as event
use Rattle.pl_event.specs.declared.log.PageKind.{PageKind}
use Rattle.pl_event.specs.declared.log.PageKind.TheVariants.{Data, Heap, Stack}
use Rattle.lifeguard.specs.declared.guard.Name.TheVariants.{Mem}
use Rattle.lifeguard.specs.declared.guard.RangeKind.{RangeKind}
use Rattle.lifeguard.specs.declared.guard.RangeKind.TheVariants.{Al, Fr, Rd}
use Rattle.lifeguard.specs.Calls.{call_registers}
use Rattle.lifeguard.specs.Rules.{Rules, all_or_none}

abbrev pub is_addressable : ℕ → Bool
is_addressable nibble = (nibble % 2) == 1

abbrev pub is_undefined : ℕ → Bool
is_undefined nibble = is_addressable nibble && ((nibble / 2 % 2) == 0)

-- the nibble with this bit 1, and its other bits
abbrev pub with_defined : ℕ → Bool → ℕ
with_defined nibble true = nibble % 2 + 2 + nibble / 4 * 4
with_defined nibble false = nibble % 2 + nibble / 4 * 4

-- a data page begins defined, a stack page undefined; a heap page may not be touched until blocks of it are taken
abbrev pub mem_page : PageKind → ℕ
mem_page Data = 3
mem_page Heap = 0
mem_page Stack = 1

-- a block that is taken is not defined; bytes from outside are
abbrev pub mem_range : RangeKind → ℕ → ℕ
mem_range Al old = 1
mem_range Fr old = 0
mem_range Rd old = with_defined old true

-- the base of an access, what a branch compares, a jump's register, and the registers that a kernel call reads
abbrev pub mem_checked : Kind → List ℕ
mem_checked (event.Ld width rd rb addr) = rb ∷ []
mem_checked (event.St width rv rb addr) = rb ∷ []
mem_checked (event.Br r1 r2) = r1 ∷ r2 ∷ []
mem_checked (event.Jr rd rs) = rs ∷ []
mem_checked kind = call_registers kind

abbrev pub mem_rules : Rules
mem_rules = record {
  name = Mem;
  page_state = mem_page;
  load_bit = is_undefined;
  store_nibble = λ old bit. with_defined old (not bit);
  range_state = mem_range;
  bad_access = λ nibble. not (is_addressable nibble);
  bad_value = is_undefined;
  checked = mem_checked;
  joins = all_or_none;
}
