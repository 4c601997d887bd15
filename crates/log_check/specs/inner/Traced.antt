-- What a trace tells of the first lines of a log.
use Rattle.std.specs.Prelude.{◌≡◌, ◌↔◌, ℕ, ◌<◌, true, false, List, length, Some, slice_get}
use Rattle.std.specs.Int.{bit_at}
use Rattle.pl_base.specs.declared.widths.LoadWidth.{LoadWidth}
use Rattle.pl_base.specs.declared.widths.StoreWidth.{StoreWidth}
use Rattle.pl_event.specs.declared.event.Event.{Event}
use Rattle.pl_event.specs.declared.event.Kind.TheVariants.{Ld, St}
use Rattle.pl_event.specs.declared.log.Line.{Line}
use Rattle.pl_event.specs.declared.log.Record.{Record}
use Rattle.pl_event.specs.declared.log.Record.TheVariants as entry
use Rattle.pl_event.specs.Alerts.{is_alert_kind}
use Rattle.pl_event.specs.Conflicts.{is_access, HasNotice}
use Rattle.pl_event.specs.Records.{IsRecord}
use Rattle.log_check.specs.declared.trace.Part.{Part}
use Rattle.log_check.specs.declared.trace.Part.TheVariants as part
use Rattle.log_check.specs.declared.trace.Outline.{Outline}

-- the part is that of the event, record n of its hart
abbrev pub IsPart : List Line → Event → ℕ → Part → Type 0
IsPart lines a n part.Other = (is_access a.kind ≡ false) × (is_alert_kind a.kind ≡ false)
IsPart lines a n (part.Load addr) = (width : LoadWidth) × (rd : ℕ) × (rb : ℕ) × (a.kind ≡ Ld width rd rb addr)
IsPart lines a n (part.Store addr) = (width : StoreWidth) × (rv : ℕ) × (rb : ℕ) × (a.kind ≡ St width rv rb addr)
IsPart lines a n (part.Alert harts) =
    (is_alert_kind a.kind ≡ true) × ((u : ℕ) → u < 8 → (bit_at harts u ≡ 1) ↔ HasNotice lines u a.hart n)

-- the outline is that of a record with this number
abbrev pub IsOutline : List Line → ℕ → Record → Outline → Type 0
IsOutline lines n (entry.Event event) outline = (outline.hart ≡ event.hart) × IsPart lines event n outline.part
IsOutline lines n (entry.Notice hart point) outline = (outline.hart ≡ hart) × (outline.part ≡ part.Other)

-- the trace has the outlines of the first i lines
pub record IsTraced (trace : List Outline) (lines : List Line) (i : ℕ) : Type 0 where
  pub count : length trace ≡ i
  pub each : (x h n : ℕ) (line : Line) (outline : Outline) → IsRecord lines x h n line →
      slice_get trace x ≡ Some outline → IsOutline lines n line.what outline
