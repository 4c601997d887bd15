-- MemCheck keeps the laws of lifeguards.
use Rattle.std.specs.Prelude.{◌≡◌, ℕ, ◌%◌, ◌<◌, ◌≤◌, Bool, true, false, not, ◌==◌, [], ◌∷◌, length, All, refl}
use Rattle.std.proofs.Common.{lit<, lit≤, subst, ap}
use Rattle.std.proofs.lemmas.List.Elements.{All-tail}
use Rattle.pl_event.specs.declared.event.Kind.{Kind}
use Rattle.pl_event.specs.declared.event.Kind.TheVariants as event
use Rattle.pl_event.specs.declared.log.PageKind.{PageKind}
use Rattle.pl_event.specs.declared.log.PageKind.TheVariants.{Data, Heap, Stack}
use Rattle.lifeguard.specs.declared.guard.Name.{Name}
use Rattle.lifeguard.specs.declared.guard.Name.TheVariants.{Addr, Taint, Mem}
use Rattle.lifeguard.specs.declared.guard.RangeKind.{RangeKind}
use Rattle.lifeguard.specs.declared.guard.RangeKind.TheVariants.{Al, Fr, Rd}
use Rattle.lifeguard.specs.Rules.{KeepsLaws, registers_of}
use Rattle.lifeguard.proofs.CallLemmas.{call_registers_few, call_registers_below}
use Rattle.lifeguard.proofs.NibbleLemmas.{set_parity, cleared_parity, set_below, cleared_below}
use Rattle.memcheck.specs.MemRules.{with_defined, mem_page, mem_range, mem_checked, mem_rules}

-- bit 0 stays
with_defined_parity : (nibble : ℕ) (bit : Bool) → with_defined nibble bit % 2 ≡ nibble % 2
with_defined_parity nibble true = set_parity nibble
with_defined_parity nibble false = cleared_parity nibble

with_defined_below : (nibble : ℕ) (bit : Bool) → nibble < 8 → with_defined nibble bit < 8
with_defined_below nibble true lt = set_below nibble lt
with_defined_below nibble false lt = cleared_below nibble lt

mem_page_below : (kind : PageKind) → mem_page kind < 8
mem_page_below Data = lit< tt
mem_page_below Heap = lit< tt
mem_page_below Stack = lit< tt

mem_range_below : (kind : RangeKind) (nibble : ℕ) → nibble < 8 → mem_range kind nibble < 8
mem_range_below Al nibble lt = lit< tt
mem_range_below Fr nibble lt = lit< tt
mem_range_below Rd nibble lt = with_defined_below nibble true lt

mem_checked_few : (kind : Kind) → length (mem_checked kind) ≤ 3
mem_checked_few (event.Ld width rd rb addr) = lit≤ tt
mem_checked_few (event.St width rv rb addr) = lit≤ tt
mem_checked_few (event.Br r1 r2) = lit≤ tt
mem_checked_few (event.Jr rd rs) = lit≤ tt
mem_checked_few kind = call_registers_few kind

abbrev IsRegister : ℕ → Type 0
IsRegister register = register < 34

mem_checked_below : (kind : Kind) → All IsRegister (registers_of kind) → All IsRegister (mem_checked kind)
mem_checked_below (event.Ld width rd rb addr) named = All-tail IsRegister rd (rb ∷ []) named
mem_checked_below (event.St width rv rb addr) named = All-tail IsRegister rv (rb ∷ []) named
mem_checked_below (event.Br r1 r2) named = named
mem_checked_below (event.Jr rd rs) named = All-tail IsRegister rd (rs ∷ []) named
mem_checked_below kind named = call_registers_below kind

abbrev IsMem : Name → Type 0
IsMem Addr = ⊥
IsMem Taint = ⊥
IsMem Mem = Unit {0}

never_addr : Mem ≡ Addr → ⊥
never_addr e = subst IsMem e tt

never_taint : Mem ≡ Taint → ⊥
never_taint e = subst IsMem e tt

pub mem_lawful : KeepsLaws mem_rules
mem_lawful = record {
  store_keeps_access = λ nibble bit lt. ap (λ (parity : ℕ). not (parity == 1)) (with_defined_parity nibble (not bit));
  page_below = mem_page_below;
  store_below = λ nibble bit lt. with_defined_below nibble (not bit) lt;
  range_below = mem_range_below;
  checked_few = mem_checked_few;
  checked_below = mem_checked_below;
  addr_stores = λ e nibble bit lt. absurd (never_addr e);
  addr_loads = λ e nibble lt. absurd (never_addr e);
  taint_access = λ e nibble lt. absurd (never_taint e);
  taint_value = λ e nibble lt. absurd (never_taint e);
  unmapped_access = λ ne. refl;
  addr_joins = λ e a b. absurd (never_addr e);
  joined = λ ne a b. refl;
}
