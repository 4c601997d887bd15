-- The next line of a check: what its calls need, and what holds once its clock is known.
use Rattle.std.proofs.Common.{◌≡◌, ℕ, ◌+◌, ◌^◌, ◌<◌, ◌≤◌, length, slice_index, Some, slice_get, refl, sym, ap, subst, arith}
use Rattle.pl_event.specs.declared.event.Event.{Event}
use Rattle.pl_event.specs.declared.heads.Heads.{Heads}
use Rattle.pl_event.specs.declared.log.Line.{Line}
use Rattle.pl_event.specs.declared.log.Log.{Log}
use Rattle.pl_event.specs.declared.log.Record.{Record}
use Rattle.pl_event.specs.declared.log.Record.TheVariants as entry
use Rattle.pl_event.specs.Edges.{Into}
use Rattle.pl_event.specs.Graph.{IsClock}
use Rattle.pl_event.specs.Heads.{Tells}
use Rattle.pl_event.specs.Numbers.{hart_of}
use Rattle.pl_event.specs.Records.{records_before, IsEvent}
use Rattle.pl_event.specs.Runs.{IsSoundLine, IsSoundRecord}
use Rattle.pl_event.specs.Valid.{IsValidEvent}
use Rattle.pl_event.proofs.Before.{got}
use Rattle.pl_event.proofs.Places.{before_most, inside}
use Rattle.log_clocks.specs.declared.clock.Clock.{Clock}
use Rattle.log_clocks.specs.declared.clocks.Clocks.{Clocks}
use Rattle.log_clocks.specs.Clocks.{HasClocks, slots, time}
use Rattle.log_check.specs.declared.order_check.OrderCheck.{OrderCheck}
use Rattle.log_check.specs.Checked.{IsCheckable, MayPass}
use Rattle.log_check.specs.inner.Partners.{IsLater, IsSought}
use Rattle.log_check.specs.inner.Settled.{MaySettle}
use Rattle.log_check.specs.inner.Traced.{IsTraced}
use Rattle.log_check.proofs.Positions.{event_of_line, line_next, line_room, sound_line}

-- one line more of this hart can be counted
pub record HasRoom (heads : Heads) (h : ℕ) : Type 0 where
  pub hart : h < 8
  pub records : slice_index heads.records h + 1 < 2 ^ 32
  pub place : heads.place + 1 < 2 ^ 32
  pub events : slice_index heads.events h + 1 < 2 ^ 32

has_room : (log : Log) (at : ℕ) (line : Line) (heads : Heads) → IsCheckable log → length log.lines < 2 ^ 32 → slice_get log.lines at ≡ Some line → Tells heads log.lines at
    → (h : ℕ) → h ≡ hart_of line.what → HasRoom heads h
has_room log at line heads may few here tells h own =
    let r = line_room log.harts log.lines may.flow may.few few heads at line tells here in
    subst (λ (z : ℕ). HasRoom heads z) (sym own) (record { hart = r.0; records = r.1; place = r.2; events = r.3 })

pub pass_room : (check : OrderCheck) (log : Log) (at : ℕ) (line : Line) → MayPass check log at line → (h : ℕ) → h ≡ hart_of line.what → HasRoom check.heads h
pass_room check log at line may h own = has_room log at line check.heads may.checkable may.few may.here may.checked.tells h own

pub pass_slots : (check : OrderCheck) (log : Log) (at : ℕ) (line : Line) → MayPass check log at line → (h : ℕ) → h ≡ hart_of line.what → length (slots check.clocks h) + 1 < 2 ^ 32
pass_slots check log at line may h own =
    let e : length (slots check.clocks h) ≡ records_before h log.lines at = may.checked.clocks.numbers h (pass_room check log at line may h own).hart in
    let most : records_before h log.lines at ≤ at = before_most log.lines h at in
    let low : at < length log.lines = inside log.lines at line (got log.lines at line may.here) in
    let few : length log.lines < 2 ^ 32 = may.few in
    omega arith

-- the clock of the line is found
pub settled : (check : OrderCheck) (clocks : Clocks) (log : Log) (at : ℕ) (line : Line) (clock : Clock) → MayPass check log at line → (h : ℕ) → h ≡ hart_of line.what
    → IsClock (Into log.lines) h (records_before h log.lines at + 1) (time clock) × HasClocks clocks log.lines (at + 1) × (time clock h ≡ records_before h log.lines at + 1)
    → MaySettle (record { block = check.block; heads = check.heads; clocks = clocks; lasts = check.lasts; alerts = check.alerts; trace = check.trace }) log at line clock
settled check clocks log at line clock may h own found = record {
  checkable = may.checkable;
  few = may.few;
  here = may.here;
  right = subst (λ (z : ℕ). IsClock (Into log.lines) z (records_before z log.lines at + 1) (time clock)) own found.0;
  number = subst (λ (z : ℕ). time clock z ≡ records_before z log.lines at + 1) own found.2;
  size = may.checked.size;
  tells = may.checked.tells;
  clocks = found.1;
  lasts = may.checked.lasts;
  alerts = may.checked.alerts;
  traced = may.checked.traced;
  ordered = may.checked.ordered;
}

module _ (check : OrderCheck) (log : Log) (at : ℕ) (line : Line) (clock : Clock) (may : MaySettle check log at line clock) where
  pub settle_room : (h : ℕ) → h ≡ hart_of line.what → HasRoom check.heads h
  settle_room h own = has_room log at line check.heads may.checkable may.few may.here may.tells h own

  pub settle_sound : IsSoundLine 8 line
  settle_sound = sound_line log.harts log.lines may.checkable.few may.checkable.sound at line (got log.lines at line may.here)

  pub trace_room : length check.trace < 2 ^ 32
  trace_room =
      let same : length check.trace ≡ at = may.traced.count in
      let low : at < length log.lines = inside log.lines at line (got log.lines at line may.here) in
      let few : length log.lines < 2 ^ 32 = may.few in
      omega arith

  module _ (event : Event) (is : line.what ≡ entry.Event event) where
    pub event_own : event.hart ≡ hart_of line.what
    event_own = sym (ap hart_of is)

    pub event_valid : IsValidEvent event 8
    event_valid = subst (λ (z : Record). IsSoundRecord 8 line.arcs z) is settle_sound.1

    pub event_here : IsEvent log.lines at (records_before (hart_of line.what) log.lines at + 1) event
    event_here = event_of_line log.lines at (records_before (hart_of line.what) log.lines at + 1) (hart_of line.what) line event (line_next log.lines at (hart_of line.what) line may.here refl) is

    pub event_clock : IsClock (Into log.lines) event.hart (records_before (hart_of line.what) log.lines at + 1) (time clock)
    event_clock = subst (λ (z : ℕ). IsClock (Into log.lines) z (records_before (hart_of line.what) log.lines at + 1) (time clock)) (sym event_own) may.right

    pub event_sought : IsSought check.trace check.heads log.harts log.lines event (records_before (hart_of line.what) log.lines at + 1) (time clock)
    event_sought = record {
      later = subst (λ (z : ℕ). IsLater log.harts log.lines z event (records_before (hart_of line.what) log.lines at + 1) (time clock)) (sym may.traced.count)
          (record { flow = may.checkable.flow; few = may.checkable.few; event = event_here; clock = event_clock });
      tells = subst (λ (z : ℕ). Tells check.heads log.lines z) (sym may.traced.count) may.tells;
      traced = subst (λ (z : ℕ). IsTraced check.trace log.lines z) (sym may.traced.count) may.traced;
    }
