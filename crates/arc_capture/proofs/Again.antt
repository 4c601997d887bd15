-- A log that is recorded anew, line by line.
use Rattle.std.proofs.Common.{◌≡◌, ℕ, ◌+◌, ◌*◌, ◌<◌, ◌≤◌, ◌∙◌, List, [], ◌∷◌, ◌++◌, length, take, get_or, sym, ap, subst, arith}
use Rattle.std.specs.List.{cons_option}
use Rattle.std.proofs.lemmas.List.{length-map}
use Rattle.std.proofs.lemmas.List.Elements.{recursion_from_All}
use Rattle.pl_event.specs.declared.event.Event.{Event}
use Rattle.pl_event.specs.declared.log.Line.{Line}
use Rattle.pl_event.specs.declared.log.Log.{Log}
use Rattle.pl_event.specs.declared.log.Record.{Record}
use Rattle.pl_event.specs.declared.log.Record.TheVariants as entry
use Rattle.pl_event.specs.Numbers.{event_of, events_of}
use Rattle.pl_event.specs.declared.log.PageRun.{PageRun}
use Rattle.pl_event.specs.OpeningPages.{RiseFrom, pages_in}
use Rattle.pl_event.specs.Runs.{IsBlockSize, IsOpening, IsRunLog, IsSoundRecord}
use Rattle.pl_event.proofs.EventLemmas.{events-more, few_before}
use Rattle.conflict_alerts.specs.declared.placer.Placer.{Placer}
use Rattle.conflict_alerts.specs.Placing.{placed}
use Rattle.arc_reduce.specs.Reduction.{records_in}
use Rattle.arc_capture.proofs.Feeding.{length_from}
use Rattle.arc_capture.specs.declared.marker.Marker.{Marker}
use Rattle.pl_event.specs.Valid.{HasValidEvent}
use Rattle.arc_capture.specs.Recorder.{HasRecorded, MayFeed, MayRecord}

sound_record : (harts : ℕ) (line : Line) (what : Record) → IsSoundRecord harts line.arcs what → HasValidEvent harts what
sound_record harts line (entry.Event event) sound = sound
sound_record harts line (entry.Notice hart point) sound = tt

-- the event of a record may be the next one
pub may_feed : (placer : Placer) (marker : Marker) (size : ℕ) (events : List Event) (lines : List Line) (what : Record) (event : Event) → what ≡ entry.Event event
    → MayRecord placer marker size events lines what → MayFeed placer marker size events lines event
may_feed placer marker size events lines what event is may = record { has = may.has; few = may.few; valid = subst (HasValidEvent placer.harts) is may.valid }

-- its lines were added
pub recorded_event : (placer : Placer) (marker : Marker) (size : ℕ) (events : List Event) (before more lines : List Line) (what : Record) (event : Event) → what ≡ entry.Event event → lines ≡ before ++ more
    → HasRecorded placer marker size (events ++ event ∷ []) (before ++ more) → HasRecorded placer marker size (events ++ cons_option (event_of what) []) lines
recorded_event placer marker size events before more lines what event is added has =
    subst (λ (es : List Event). HasRecorded placer marker size (events ++ es) lines) (ap (λ (w : Record). cons_option (event_of w) []) (sym is))
    (subst (HasRecorded placer marker size (events ++ event ∷ [])) (sym added) has)

module _ (log : Log) (run : IsRunLog log) (few : length log.lines ≤ 2000000) (size i : ℕ) (what : Record) (low : i < length log.lines) (is : (d : Line) → what ≡ (get_or log.lines i d).what) where
  -- the record of a line may be the next one
  pub may_record : (placer : Placer) (marker : Marker) (lines : List Line) → placer.harts ≡ log.harts → HasRecorded placer marker size (events_of (take i log.lines)) lines
      → MayRecord placer marker size (events_of (take i log.lines)) lines what
  may_record placer marker lines same has =
      let d : Line = record { what = what; arcs = [] } in
      let line : Line = get_or log.lines i d in
      record {
        has = has;
        few = omega (arith, few, low, few_before log.lines i);
        valid = subst (λ (h : ℕ). HasValidEvent h what) (sym same) (subst (HasValidEvent log.harts) (sym (is d)) (sound_record log.harts line line.what (run.sound i d low).1));
      }

  -- one line more
  pub next_recorded : (placer : Placer) (marker : Marker) (lines : List Line) → HasRecorded placer marker size (events_of (take i log.lines) ++ cons_option (event_of what) []) lines
      → HasRecorded placer marker size (events_of (take (i + 1) log.lines)) lines
  next_recorded placer marker lines has = subst (λ (es : List Event). HasRecorded placer marker size es lines) (sym (events-more log.lines i what low is)) has

-- a log begins as another one with blocks of another size
pub with_blocks : (log made : Log) → made.harts ≡ log.harts → IsBlockSize made.block → made.pages ≡ log.pages → IsOpening log → IsOpening made
with_blocks log made harts block pages opening = record {
  some = omega (arith, harts, opening.some);
  few = omega (arith, harts, opening.few);
  block = block;
  rising = subst (RiseFrom 0) (sym pages) opening.rising;
  room = subst (λ (runs : List PageRun). pages_in runs ≤ 512) (sym pages) opening.room;
}

-- a recorder makes at most eight lines of an event
pub few_recorded : (placer : Placer) (marker : Marker) (size : ℕ) (events : List Event) (lines : List Line) → HasRecorded placer marker size events lines → length events ≤ 2000000 → length lines ≤ 16000000
few_recorded placer marker size events lines has few =
    let base : List Line = placed placer.harts events in
    let same : records_in lines ≡ records_in base = has.marked.reduced.records ∙ has.marked.whole.records in
    let long : length lines ≡ length base = sym (length-map lines (λ (line : Line). line.what)) ∙ (ap (λ (rs : List Record). length rs) same ∙ length-map base (λ (line : Line). line.what)) in
    let most : length base ≤ 0 + 8 * length events = length_from placer.harts events has.harts (recursion_from_All (λ (event : Event). event.hart < placer.harts) events has.inside) [] in
    omega arith
