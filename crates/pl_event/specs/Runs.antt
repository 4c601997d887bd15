-- Which logs are logs of a run, whatever their text.
use Rattle.std.specs.Prelude.{◌≡◌, ◌⊎◌, ℕ, ◌<◌, ◌≤◌, Bool, true, false, IsTrue, List, length, Option, Some, All}
use mathlib.Core.Option.{some}
use lib.ListN.{get_elem?}
use Rattle.pl_base.specs.declared.layout.TheConstants.{BLOCK_BYTES, MAX_HARTS, MAX_MAPPED_PAGES, SMALL_BLOCK_BYTES}
use Rattle.pl_event.specs.declared.event.Event.{Event}
use Rattle.pl_event.specs.declared.event.Kind.{Kind}
use Rattle.pl_event.specs.declared.event.Kind.TheVariants.{Ex, Ft}
use Rattle.pl_event.specs.declared.log.Line.{Line}
use Rattle.pl_event.specs.declared.log.Log.{Log}
use Rattle.pl_event.specs.declared.log.Record.{Record}
use Rattle.pl_event.specs.declared.log.Record.TheVariants as entry
use Rattle.pl_event.specs.Alerts.{is_alert_kind}
use Rattle.pl_event.specs.Edges.{IsFlow, IsNotice, arc_of, no_arcs}
use Rattle.pl_event.specs.Mapping.{mapped_at, KeepsPages}
use Rattle.pl_event.specs.OpeningPages.{RiseFrom, pages_in}
use Rattle.pl_event.specs.Records.{IsEvent}
use Rattle.pl_event.specs.Valid.{IsValidEvent}

-- a record is a valid event, or a notice, which has no arcs
abbrev pub IsSoundRecord : ℕ → List (Option ℕ) → Record → Type 0
IsSoundRecord harts arcs (entry.Event event) = IsValidEvent event harts
IsSoundRecord harts arcs (entry.Notice hart point) = arcs ≡ no_arcs

abbrev pub IsSoundLine : ℕ → Line → Type 0
IsSoundLine harts line = (length line.arcs ≡ MAX_HARTS) × IsSoundRecord harts line.arcs line.what

-- the line at position i is this event
abbrev pub EventAt : List Line → ℕ → Event → Type 0
EventAt lines i event = (line : Line) × (get_elem? lines i ≡ some line) × (line.what ≡ entry.Event event)

-- the event ends its hart
abbrev pub ends_hart : Kind → Bool
ends_hart Ex = true
ends_hart (Ft cause addr) = true
ends_hart _ = false

-- record n of hart u comes, and is an alert event
abbrev pub IsAlert : List Line → ℕ → ℕ → Type 0
IsAlert lines u n =
    (i : ℕ) × (event : Event) × IsEvent lines i n event × (event.hart ≡ u) × IsTrue (is_alert_kind event.kind)

-- blocks of 16 bytes, or of 4
abbrev pub IsBlockSize : ℕ → Type 0
IsBlockSize block = (block ≡ BLOCK_BYTES) ⊎ (block ≡ SMALL_BLOCK_BYTES)

-- how a log begins: 1 to 8 harts, a size of blocks, and runs of at most 512 pages
pub record IsOpening (log : Log) : Type 0 where
  pub some : 1 ≤ log.harts
  pub few : log.harts ≤ MAX_HARTS
  pub block : IsBlockSize log.block
  pub rising : RiseFrom 0 log.pages
  pub room : pages_in log.pages ≤ MAX_MAPPED_PAGES

-- the log of a run: each line is sound, arcs and notices lead forward, what a notice names is an alert event, a hart
-- has no event after its end, and an event maps and unmaps pages that may be
pub record IsRunLog (log : Log) : Type 0 where
  pub opening : IsOpening log
  pub sound : All (IsSoundLine log.harts) log.lines
  pub flow : IsFlow log.harts log.lines
  pub alerts : (h k u n : ℕ) → IsNotice log.lines h k u n → IsAlert log.lines u n
  pub live : (i j : ℕ) (a b : Event) → i < j → EventAt log.lines i a → EventAt log.lines j b → a.hart ≡ b.hart →
      ends_hart a.kind ≡ false
  pub maps : (i : ℕ) (event : Event) → EventAt log.lines i event → KeepsPages (mapped_at log i) event.kind

-- each record number that the lines name is at most `most`
pub record HasNumbersTo (most : ℕ) (lines : List Line) : Type 0 where
  pub arcs : (i : ℕ) (line : Line) → get_elem? lines i ≡ some line → (u n : ℕ) → arc_of line u ≡ Some n → n ≤ most
  pub notices : (h k u n : ℕ) → IsNotice lines h k u n → n ≤ most
