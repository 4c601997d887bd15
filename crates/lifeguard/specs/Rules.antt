-- What a lifeguard makes of nibbles, masks and kinds of event.
use Rattle.std.specs.Prelude.{◌≡◌, ◌≢◌, ℕ, ◌<◌, ◌≤◌, Bool, true, false, ◌&&◌, ◌==◌, List, [], ◌∷◌, length, All, if◌then◌else◌}
use Rattle.pl_base.specs.declared.layout.TheConstants.{REGISTERS}
use Rattle.pl_event.specs.declared.event.Kind.{Kind}
use Rattle.pl_event.specs.declared.event.Kind.TheVariants.{Ld, St, Op, Mv, Im, Br, Jr, Al, Fr, Bf, Mp, Um, Rd, Wr, Ex, Ft}
use Rattle.pl_event.specs.declared.log.PageKind.{PageKind}
use Rattle.lifeguard.specs.declared.guard.Name.{Name}
use Rattle.lifeguard.specs.declared.guard.Name.TheVariants as name
use Rattle.lifeguard.specs.declared.guard.RangeKind.{RangeKind}

pub record Rules : Type 0 where
  pub name : Name
  pub page_state : PageKind → ℕ
  pub load_bit : ℕ → Bool
  pub store_nibble : ℕ → Bool → ℕ
  pub range_state : RangeKind → ℕ → ℕ
  pub bad_access : ℕ → Bool
  pub bad_value : ℕ → Bool
  pub checked : Kind → List ℕ
  pub joins : ℕ → ℕ → ℕ

-- the registers that a kind names
abbrev pub registers_of : Kind → List ℕ
registers_of (Ld width rd rb addr) = rd ∷ rb ∷ []
registers_of (St width rv rb addr) = rv ∷ rb ∷ []
registers_of (Op rd r1 r2) = rd ∷ r1 ∷ r2 ∷ []
registers_of (Mv rd rs) = rd ∷ rs ∷ []
registers_of (Im rd) = rd ∷ []
registers_of (Br r1 r2) = r1 ∷ r2 ∷ []
registers_of (Jr rd rs) = rd ∷ rs ∷ []
registers_of (Al addr len) = []
registers_of (Fr addr len) = []
registers_of (Bf addr) = []
registers_of (Mp page count) = []
registers_of (Um page count) = []
registers_of (Rd addr len) = []
registers_of (Wr addr len) = []
registers_of Ex = []
registers_of (Ft cause addr) = []

-- a mask is joined from two: all bytes are marked where one of them is
abbrev pub all_or_none : ℕ → ℕ → ℕ
all_or_none a b = if (a == 0) && (b == 0) then 0 else 15

-- the laws that every lifeguard keeps
pub record KeepsLaws (rules : Rules) : Type 0 where
  pub store_keeps_access : (nibble : ℕ) (bit : Bool) → nibble < 8 →
      rules.bad_access (rules.store_nibble nibble bit) ≡ rules.bad_access nibble
  pub page_below : (kind : PageKind) → rules.page_state kind < 8
  pub store_below : (nibble : ℕ) (bit : Bool) → nibble < 8 → rules.store_nibble nibble bit < 8
  pub range_below : (kind : RangeKind) (nibble : ℕ) → nibble < 8 → rules.range_state kind nibble < 8
  pub checked_few : (kind : Kind) → length (rules.checked kind) ≤ 3
  pub checked_below : (kind : Kind) → All (λ register. register < REGISTERS) (registers_of kind) →
      All (λ register. register < REGISTERS) (rules.checked kind)
  pub addr_stores : rules.name ≡ name.Addr → (nibble : ℕ) (bit : Bool) → nibble < 8 →
      rules.store_nibble nibble bit ≡ nibble
  pub addr_loads : rules.name ≡ name.Addr → (nibble : ℕ) → nibble < 8 → rules.load_bit nibble ≡ false
  pub taint_access : rules.name ≡ name.Taint → (nibble : ℕ) → nibble < 8 → rules.bad_access nibble ≡ false
  pub taint_value : rules.name ≡ name.Taint → (nibble : ℕ) → nibble < 8 → rules.bad_value nibble ≡ false
  pub unmapped_access : rules.name ≢ name.Taint → rules.bad_access 0 ≡ true
  pub addr_joins : rules.name ≡ name.Addr → (a b : ℕ) → rules.joins a b ≡ 0
  pub joined : rules.name ≢ name.Addr → (a b : ℕ) → rules.joins a b ≡ all_or_none a b
