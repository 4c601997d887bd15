-- AddrCheck keeps the laws of lifeguards.
use Rattle.std.specs.Prelude.{◌≡◌, ℕ, ◌<◌, refl}
use Rattle.std.proofs.Common.{lit<, lit≤, subst}
use Rattle.std.proofs.lemmas.List.Elements.{All-nil}
use Rattle.pl_event.specs.declared.log.PageKind.{PageKind}
use Rattle.pl_event.specs.declared.log.PageKind.TheVariants.{Data, Heap, Stack}
use Rattle.lifeguard.specs.declared.guard.Name.{Name}
use Rattle.lifeguard.specs.declared.guard.Name.TheVariants.{Addr, Taint, Mem}
use Rattle.lifeguard.specs.declared.guard.RangeKind.{RangeKind}
use Rattle.lifeguard.specs.declared.guard.RangeKind.TheVariants.{Al, Fr, Rd}
use Rattle.lifeguard.specs.Rules.{KeepsLaws}
use Rattle.addrcheck.specs.AddrRules.{addr_page, addr_range, addr_rules}

addr_page_below : (kind : PageKind) → addr_page kind < 8
addr_page_below Data = lit< tt
addr_page_below Heap = lit< tt
addr_page_below Stack = lit< tt

addr_range_below : (kind : RangeKind) (nibble : ℕ) → nibble < 8 → addr_range kind nibble < 8
addr_range_below Al nibble lt = lit< tt
addr_range_below Fr nibble lt = lit< tt
addr_range_below Rd nibble lt = lt

abbrev IsAddr : Name → Type 0
IsAddr Addr = Unit {0}
IsAddr Taint = ⊥
IsAddr Mem = ⊥

never_taint : Addr ≡ Taint → ⊥
never_taint e = subst IsAddr e tt

pub addr_lawful : KeepsLaws addr_rules
addr_lawful = record {
  store_keeps_access = λ nibble bit lt. refl;
  page_below = addr_page_below;
  store_below = λ nibble bit lt. lt;
  range_below = addr_range_below;
  checked_few = λ kind. lit≤ tt;
  checked_below = λ kind named. All-nil (λ register. register < 34);
  addr_stores = λ e nibble bit lt. refl;
  addr_loads = λ e nibble lt. refl;
  taint_access = λ e nibble lt. absurd (never_taint e);
  taint_value = λ e nibble lt. absurd (never_taint e);
  unmapped_access = λ ne. refl;
  addr_joins = λ e a b. refl;
  joined = λ ne a b. absurd (ne refl);
}
