-- How far the harts of a log are before a line.
use Rattle.std.specs.Prelude.{◌≡◌, ℕ, ◌+◌, ◌<◌, ◌≤◌, List, length, take, slice_index, slice_index_or, Some, None}
use Rattle.pl_event.specs.declared.heads.Heads.{Heads}
use Rattle.pl_event.specs.declared.log.Line.{Line}
use Rattle.pl_event.specs.declared.log.Point.{Point}
use Rattle.pl_event.specs.Numbers.{events_of, events_on}
use Rattle.pl_event.specs.Records.{records_before, IsRecord}
use Rattle.pl_event.specs.Edges.{IsNotice}

-- the line of hart h at position i
abbrev pub IsNext : List Line → ℕ → ℕ → Line → Type 0
IsNext lines i h line = IsRecord lines i h (records_before h lines i + 1) line

-- how many records and events each hart has among the first i lines, the notice that is its last record there, and a
-- bound for the numbers that such notices name
pub record Tells (heads : Heads) (lines : List Line) (i : ℕ) : Type 0 where
  pub place : heads.place ≡ length (events_of (take i lines))
  pub events : (h : ℕ) → h < 8 → slice_index heads.events h ≡ events_on h (events_of (take i lines))
  pub records : (h : ℕ) → h < 8 → slice_index heads.records h ≡ records_before h lines i
  pub told : (h : ℕ) (p : Point) → slice_index_or heads.notices h None ≡ Some p →
      IsNotice lines h (records_before h lines i) p.hart p.number
  pub all : (h u n : ℕ) → h < 8 → IsNotice lines h (records_before h lines i) u n →
      (p : Point) × (slice_index_or heads.notices h None ≡ Some p) × (p.hart ≡ u) × (p.number ≡ n)
  pub awaited : (h : ℕ) (p : Point) → slice_index_or heads.notices h None ≡ Some p → p.hart < 8 →
      p.number ≤ slice_index heads.awaited p.hart
