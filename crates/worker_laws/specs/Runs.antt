-- A plan beside the plain run of its log, as the worker of one hart meets it.
use Rattle.std.specs.Prelude.{◌≡◌, ℕ, ◌+◌, ◌-◌, ◌^◌, ◌<◌, ◌≤◌, Bool, true, false, List, length, take, Option, Some, None}
use mathlib.Core.Option.{some}
use lib.ListN.{get_elem?}
use Rattle.pl_base.specs.Widths.{load_bytes, store_bytes}
use Rattle.pl_event.specs.declared.event.Kind.{Kind}
use Rattle.pl_event.specs.declared.event.Kind.TheVariants.{Ld, St}
use Rattle.pl_event.specs.declared.log.Line.{Line}
use Rattle.pl_event.specs.declared.log.Record.{Record}
use Rattle.pl_event.specs.declared.log.Record.TheVariants as entry
use Rattle.pl_event.specs.Alerts.{is_alert_kind}
use Rattle.pl_event.specs.Numbers.{events_of}
use Rattle.pl_event.specs.Records.{line_number, record_of, IsRecord}
use Rattle.lifeguard.specs.declared.report.Report.{Report}
use Rattle.lifeguard.specs.Rules.{Rules, KeepsLaws}
use Rattle.lifeguard.specs.State.{State, first_state}
use Rattle.lifeguard.specs.Plain.{place_after, plain_result, rule}
use Rattle.lifeguard.specs.Ranges.{IsInRange, reports_on}
use Rattle.order_core.specs.declared.course.Op.{Op}
use Rattle.order_core.specs.Course.{Planned, IsListed, course_of, length_of}
use Rattle.order_core.specs.Lawful.{IsLawful}
use Rattle.order_core.specs.Shapes.{Shape, fill, after_shapes}
use Rattle.idem_filter.specs.declared.filter.Check.{Check}
use Rattle.shadow_frames.specs.Words.{WordsRepresent}
use Rattle.shadow_layout.specs.Logs.{record_shapes}
use Rattle.shadow_layout.specs.Operations.{shapes}

-- the plain state and the words of the table between two lines
pub record Moment : Type 0 where
  pub state : State
  pub words : ℕ → ℕ

-- the rules of a lifeguard, a plan, and the moment before the line at each position of its log
pub record Run : Type 0 where
  pub rules : Rules
  pub plan : Planned
  pub moment : ℕ → Moment

-- what a record does; a notice does nothing
abbrev pub kind_of : Record → Option Kind
kind_of (entry.Event event) = Some event.kind
kind_of (entry.Notice hart point) = None

abbrev pub kind_in : Option Line → Option Kind
kind_in None = None
kind_in (Some line) = kind_of line.what

-- a notice or an alert event, at which nothing is kept of what was read before
abbrev pub flushes : Record → Bool
flushes (entry.Event event) = is_alert_kind event.kind
flushes (entry.Notice hart point) = true

abbrev pub flushes_in : Option Line → Bool
flushes_in None = false
flushes_in (Some line) = flushes line.what

-- the first byte and the number of bytes of a load or a store
abbrev pub reach_of : Kind → Option Check
reach_of (Ld width rd rb addr) = Some (record { addr = addr; width = load_bytes width })
reach_of (St width rv rb addr) = Some (record { addr = addr; width = store_bytes width })
reach_of _ = None

abbrev pub reach_in : Option Kind → Option Check
reach_in None = None
reach_in (Some kind) = reach_of kind

-- the plain state after a record, the one at position i
abbrev pub state_after : Rules → List Line → ℕ → State → Record → State
state_after rules lines i state (entry.Event event) =
    rule rules (place_after (events_of (take i lines)) event) event.kind state
state_after rules lines i state (entry.Notice hart point) = state

module _ (p : Run) where
  -- how many records hart h has
  abbrev pub size : ℕ → ℕ
  size h = length_of (course_of p.plan) h

  -- the moment before record m of hart h, or the last one where the hart has no such record
  abbrev pub before : ℕ → ℕ → Moment
  before h m = p.moment (line_number p.plan.log.lines h m - 1)

  -- the masks of hart h before its record m, and what is reported of it by then
  abbrev pub masks_before : ℕ → ℕ → ℕ → ℕ
  masks_before h m = (before h m).state.masks h

  abbrev pub reports_before : ℕ → ℕ → List Report
  reports_before h m = reports_on h (before h m).state.reports

  -- the operations of record m of hart h, an event of this kind, before their values are known
  abbrev pub shapes_at : ℕ → ℕ → Kind → List Shape
  shapes_at h m kind =
      let q = before h m in
      shapes p.rules p.plan.log.block h q.state.masks q.words kind

  -- record m of hart h is an event of this kind
  abbrev pub IsKind : ℕ → ℕ → Kind → Type 0
  IsKind h m kind = kind_in (record_of p.plan.log.lines h m) ≡ Some kind

  -- record m of hart h is a load or a store of these bytes
  abbrev pub IsReach : ℕ → ℕ → Check → Type 0
  IsReach h m c = reach_in (kind_in (record_of p.plan.log.lines h m)) ≡ Some c

  abbrev pub IsFlush : ℕ → ℕ → Type 0
  IsFlush h m = flushes_in (record_of p.plan.log.lines h m) ≡ true

  -- no record of hart h strictly between its records n and m is a notice or an alert event
  abbrev pub IsQuiet : ℕ → ℕ → ℕ → Type 0
  IsQuiet h n m = (k : ℕ) → n < k → k < m → IsFlush h k → ⊥

  -- this holds before each load and store of hart h after its record n, until something is flushed
  abbrev pub Lasts : ℕ → ℕ → (Moment → Type 0) → Type 0
  Lasts h n P = (m : ℕ) (c : Check) → n < m → m ≤ size h → IsQuiet h n m → IsReach h m c → P (before h m)

  -- the plan is lawful. Words and state begin as the log says, and change by each line as the layout and the plain
  -- rules say. The words represent the bytes, and the operations of a record are filled from the words before it
  pub record IsRun : Type 0 where
    pub laws : KeepsLaws p.rules
    pub lawful : ∥ IsLawful (course_of p.plan) ∥₁
    pub first : (p.moment 0).state ≡ first_state p.rules p.plan.log.pages
    pub state : (i : ℕ) (line : Line) → get_elem? p.plan.log.lines i ≡ some line
        → (p.moment (i + 1)).state ≡ state_after p.rules p.plan.log.lines i (p.moment i).state line.what
    pub words : (i : ℕ) (line : Line) → get_elem? p.plan.log.lines i ≡ some line
        → let q = p.moment i in
        let done = record_shapes p.rules p.plan.log.block q.state q.words line.what in
        (p.moment (i + 1)).words ≡ after_shapes q.words done
    pub operations : (i h m : ℕ) (line : Line) → IsRecord p.plan.log.lines i h m line
        → let q = p.moment i in
        p.plan.operations h m ≡ fill q.words (record_shapes p.rules p.plan.log.block q.state q.words line.what)
    pub ended : (i : ℕ) → length p.plan.log.lines ≤ i → p.moment (i + 1) ≡ p.moment i
    pub last : (p.moment (length p.plan.log.lines)).state
        ≡ plain_result p.rules p.plan.log.pages (events_of p.plan.log.lines)
    pub represents : (i : ℕ) → ∥ WordsRepresent (p.moment i).words (p.moment i).state.bytes ∥₁
    pub range : (i : ℕ) → IsInRange (p.moment i).state
    pub wide_words : (i w : ℕ) → (p.moment i).words w < 2 ^ 64
    pub wide_values : (h m i : ℕ) (o : Op) → IsListed p.plan h m i o → o.value < 2 ^ 64
