-- What the clocks of a log's records tell.
use Rattle.std.specs.Prelude.{◌≡◌, ℕ, zero, suc, ◌<◌, ◌≤◌, ◌==◌, List, [], length, map, slice_index, slice_index_or, Vec, if◌then◌else◌}
use Rattle.std.specs.declared.alloc.Global.{Global}
use Rattle.pl_event.specs.declared.log.Line.{Line}
use Rattle.pl_event.specs.Edges.{Into}
use Rattle.pl_event.specs.Graph.{IsClock}
use Rattle.pl_event.specs.Records.{records_before}
use Rattle.log_clocks.specs.declared.clock.Clock.{Clock}
use Rattle.log_clocks.specs.declared.clocks.Clocks.{Clocks}

-- the number that a clock has for a hart
abbrev pub time : Clock → ℕ → ℕ
time clock u = slice_index clock.numbers u

abbrev pub slots_in : List (Vec ℕ Global) → ℕ → List ℕ
slots_in vs h = slice_index_or (map (λ v. v.items) vs) h []

-- which of the clocks that are kept each record of a hart has
abbrev pub slots : Clocks → ℕ → List ℕ
slots clocks h = slots_in clocks.slots.items h

abbrev pub slot_in : List ℕ → ℕ → ℕ
slot_in xs zero = 0
slot_in xs (suc m) = slice_index xs m

-- which of them record m of hart h has; before its first record a hart has the first
abbrev pub slot_of : Clocks → ℕ → ℕ → ℕ
slot_of clocks h m = slot_in (slots clocks h) m

abbrev pub clock_at : List Clock → ℕ → Clock
clock_at kept slot = slice_index_or kept slot (record { numbers = [] })

abbrev pub kept_at : Clocks → ℕ → Clock
kept_at clocks slot = clock_at clocks.kept.items slot

abbrev pub known_in : List ℕ → List Clock → ℕ → ℕ → ℕ → ℕ
known_in xs kept h zero u = 0
known_in xs kept h (suc m) u = if u == h then suc m else time (clock_at kept (slot_in xs (suc m))) u

-- the number that the clock of record m of hart h has for hart u
abbrev pub known : Clocks → ℕ → ℕ → ℕ → ℕ
known clocks h m u = known_in (slots clocks h) clocks.kept.items h m u

-- the clocks are those of the records among the first i lines
pub record HasClocks (clocks : Clocks) (lines : List Line) (i : ℕ) : Type 0 where
  pub numbers : (h : ℕ) → h < 8 → length (slots clocks h) ≡ records_before h lines i
  pub right : (h m : ℕ) → m ≤ records_before h lines i → IsClock (Into lines) h m (known clocks h m)
  pub first : (u : ℕ) → time (kept_at clocks 0) u ≡ 0
  pub within : (h m : ℕ) → slot_of clocks h m < length clocks.kept.items

-- both have the same records with the same clocks
pub record HasSameClocks (old new : Clocks) : Type 0 where
  pub records : (h : ℕ) → slots new h ≡ slots old h
  pub kept : new.kept.items ≡ old.kept.items
