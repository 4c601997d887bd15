-- TaintCheck keeps the laws of lifeguards.
use Rattle.std.specs.Prelude.{◌≡◌, ℕ, ◌<◌, ◌≤◌, Bool, true, false, [], ◌∷◌, length, All, refl}
use Rattle.std.proofs.Common.{lit<, lit≤, subst}
use Rattle.std.proofs.lemmas.List.Elements.{All-tail}
use Rattle.pl_event.specs.declared.event.Kind.{Kind}
use Rattle.pl_event.specs.declared.event.Kind.TheVariants as event
use Rattle.lifeguard.specs.declared.guard.Name.{Name}
use Rattle.lifeguard.specs.declared.guard.Name.TheVariants.{Addr, Taint, Mem}
use Rattle.lifeguard.specs.declared.guard.RangeKind.{RangeKind}
use Rattle.lifeguard.specs.declared.guard.RangeKind.TheVariants.{Al, Fr, Rd}
use Rattle.lifeguard.specs.Rules.{KeepsLaws, registers_of}
use Rattle.lifeguard.proofs.CallLemmas.{call_registers_few, call_registers_below}
use Rattle.taintcheck.specs.TaintRules.{taint_store, taint_range, taint_checked, taint_rules}

taint_store_below : (nibble : ℕ) (bit : Bool) → taint_store nibble bit < 8
taint_store_below nibble true = lit< tt
taint_store_below nibble false = lit< tt

taint_range_below : (kind : RangeKind) (nibble : ℕ) → nibble < 8 → taint_range kind nibble < 8
taint_range_below Al nibble lt = lt
taint_range_below Fr nibble lt = lt
taint_range_below Rd nibble lt = lit< tt

taint_checked_few : (kind : Kind) → length (taint_checked kind) ≤ 3
taint_checked_few (event.Jr rd rs) = lit≤ tt
taint_checked_few kind = call_registers_few kind

abbrev IsRegister : ℕ → Type 0
IsRegister register = register < 34

taint_checked_below : (kind : Kind) → All IsRegister (registers_of kind) → All IsRegister (taint_checked kind)
taint_checked_below (event.Jr rd rs) named = All-tail IsRegister rd (rs ∷ []) named
taint_checked_below kind named = call_registers_below kind

abbrev IsTaint : Name → Type 0
IsTaint Addr = ⊥
IsTaint Taint = Unit {0}
IsTaint Mem = ⊥

never_addr : Taint ≡ Addr → ⊥
never_addr e = subst IsTaint e tt

pub taint_lawful : KeepsLaws taint_rules
taint_lawful = record {
  store_keeps_access = λ nibble bit lt. refl;
  page_below = λ kind. lit< tt;
  store_below = λ nibble bit lt. taint_store_below nibble bit;
  range_below = taint_range_below;
  checked_few = taint_checked_few;
  checked_below = taint_checked_below;
  addr_stores = λ e nibble bit lt. absurd (never_addr e);
  addr_loads = λ e nibble lt. absurd (never_addr e);
  taint_access = λ e nibble lt. refl;
  taint_value = λ e nibble lt. refl;
  unmapped_access = λ ne. absurd (ne refl);
  addr_joins = λ e a b. absurd (never_addr e);
  joined = λ ne a b. refl;
}
