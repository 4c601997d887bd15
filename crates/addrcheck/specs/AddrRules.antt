-- What AddrCheck makes of nibbles: bit 0 says that a byte may be touched.
use Rattle.std.specs.Prelude.{ℕ, ◌%◌, false, ◌==◌, []}
use Rattle.pl_event.specs.declared.log.PageKind.{PageKind}
use Rattle.pl_event.specs.declared.log.PageKind.TheVariants.{Data, Heap, Stack}
use Rattle.lifeguard.specs.declared.guard.Name.TheVariants.{Addr}
use Rattle.lifeguard.specs.declared.guard.RangeKind.{RangeKind}
use Rattle.lifeguard.specs.declared.guard.RangeKind.TheVariants.{Al, Fr, Rd}
use Rattle.lifeguard.specs.Rules.{Rules}

-- a heap page may not be touched until blocks of it are taken
abbrev pub addr_page : PageKind → ℕ
addr_page Data = 1
addr_page Heap = 0
addr_page Stack = 1

-- bytes from outside change nothing
abbrev pub addr_range : RangeKind → ℕ → ℕ
addr_range Al old = 1
addr_range Fr old = 0
addr_range Rd old = old

-- no value is bad, no register is checked, and no mask is ever set
abbrev pub addr_rules : Rules
addr_rules = record {
  name = Addr;
  page_state = addr_page;
  load_bit = λ nibble. false;
  store_nibble = λ old bit. old;
  range_state = addr_range;
  bad_access = λ nibble. (nibble % 2) == 0;
  bad_value = λ nibble. false;
  checked = λ kind. [];
  joins = λ a b. 0;
}
