-- What is known of the lines of a log of which it is only known that it is a run's.
use Rattle.std.proofs.Common.{◌≡◌, ℕ, ◌+◌, ◌^◌, ◌<◌, ◌≤◌, List, length, All, Option, Some, slice_get, slice_index, refl, sym, subst, arith}
use Rattle.std.proofs.Math.Logic.{∥∥₁_elim, ∥∥₁_map}
use Rattle.std.specs.Coded.{Coded-set, coded_ℕ, coded_list, coded_option}
use denote.Struct.Props.{props}
use mathlib.Core.Option.{some}
use lib.ListN.{get_elem?}
use Rattle.pl_event.specs.declared.heads.Heads.{Heads}
use Rattle.pl_event.specs.declared.log.Line.{Line}
use Rattle.pl_event.specs.declared.log.Log.{Log}
use Rattle.pl_event.specs.declared.log.PageRun.{PageRun}
use Rattle.pl_event.specs.Edges.{IsFlow}
use Rattle.pl_event.specs.Heads.{IsNext, Tells}
use Rattle.pl_event.specs.Needs.{needs_of}
use Rattle.pl_event.specs.Numbers.{hart_of}
use Rattle.pl_event.specs.OpeningPages.{RiseFrom, pages_in}
use Rattle.pl_event.specs.Records.{records_before}
use Rattle.pl_event.specs.Runs.{IsRunLog}
use Rattle.pl_event.proofs.Before.{got, room}
use Rattle.lifeguard.specs.Rules.{Rules, KeepsLaws}
use Rattle.order_core.specs.Filled.{words_after}
use Rattle.shadow_layout.specs.Logs.{log_shapes}
use Rattle.log_plan.specs.Plans.{opening_list}
use Rattle.pl_event.specs.Valid.{HasValidEvent}
use Rattle.list_plan.specs.inner.Rooms.{RecordHasRoom}
use Rattle.list_plan.proofs.RoomLemmas.{all_inside, record_room, rise_prop}
use Rattle.pl_event.specs.declared.log.Record.{Record}
use Rattle.pl_event.specs.declared.log.Record.TheVariants as entry

module _ (log : Log) (run : ∥ IsRunLog log ∥₁) where
  pub rising : RiseFrom 0 log.pages
  rising = ∥∥₁_elim run (rise_prop 0 log.pages) (λ (r : IsRunLog log). r.opening.rising)

  pub few_pages : pages_in log.pages ≤ 512
  few_pages = ∥∥₁_elim run (hlevel props) (λ (r : IsRunLog log). r.opening.room)

  pub few_harts : log.harts ≤ 8
  few_harts = ∥∥₁_elim run (hlevel props) (λ (r : IsRunLog log). r.opening.few)

  pub pages_inside : All (λ (p : PageRun). p.first + p.count ≤ 4096) log.pages
  pages_inside = all_inside 0 log.pages rising

  module _ (i : ℕ) (line : Line) (here : slice_get log.lines i ≡ Some line) where
    pub at : get_elem? log.lines i ≡ some line
    at = got log.lines i line here

    pub next : (h : ℕ) → h ≡ hart_of line.what → IsNext log.lines i h line
    next h own = record { at = at; hart = sym own; number = refl }

    pub hart_low : hart_of line.what < log.harts
    hart_low = ∥∥₁_elim run (hlevel props) (λ (r : IsRunLog log). r.flow.within i (hart_of line.what) (records_before (hart_of line.what) log.lines i + 1) line (next (hart_of line.what) refl))

    pub has_room : (rules : Rules) → KeepsLaws rules → (w : ℕ → ℕ) → w ≡ words_after (log_shapes rules log) (opening_list rules log.pages) i → ∥ RecordHasRoom rules w log.harts line.what ∥₁
    has_room rules laws w is = ∥∥₁_map run (λ (r : IsRunLog log). subst (λ (v : ℕ → ℕ). RecordHasRoom rules v log.harts line.what) (sym is) (record_room rules laws log r i line here at))

    module _ (heads : Heads) (tells : ∥ Tells heads log.lines i ∥₁) (few : length log.lines ≤ 2000000) where
      pub line_room : (hart_of line.what < 8) × (slice_index heads.records (hart_of line.what) + 1 < 2 ^ 32) × (heads.place + 1 < 2 ^ 32) × (slice_index heads.events (hart_of line.what) + 1 < 2 ^ 32)
      line_room = ∥∥₁_elim run (hlevel props) (λ (r : IsRunLog log). ∥∥₁_elim tells (hlevel props) (λ (t : Tells heads log.lines i). room log.harts log.lines r.flow r.opening.few (omega arith) heads i line t at))

      pub needs_are : (h : ℕ) → h ≡ hart_of line.what → (needs : List (Option ℕ))
          → ((harts : ℕ) (lines : List Line) (k : ℕ) → IsFlow harts lines → Tells heads lines k → IsNext lines k h line → needs ≡ needs_of lines h (records_before h lines k + 1))
          → needs ≡ needs_of log.lines h (records_before h log.lines i + 1)
      needs_are h own needs f = ∥∥₁_elim run (Coded-set (coded_list (coded_option coded_ℕ)) _ _) (λ (r : IsRunLog log). ∥∥₁_elim tells (Coded-set (coded_list (coded_option coded_ℕ)) _ _) (λ (t : Tells heads log.lines i). f log.harts log.lines i r.flow t (next h own)))

      pub tells_next : (new : Heads)
          → ((harts : ℕ) (lines : List Line) (k : ℕ) → IsFlow harts lines → Tells heads lines k → IsNext lines k (hart_of line.what) line → Tells new lines (k + 1))
          → ∥ Tells new log.lines (i + 1) ∥₁
      tells_next new f = ∥∥₁_elim run (hlevel props) (λ (r : IsRunLog log). ∥∥₁_map tells (λ (t : Tells heads log.lines i). f log.harts log.lines i r.flow t (next (hart_of line.what) refl)))

-- a record that has room is sound
pub sound_of : (rules : Rules) (w : ℕ → ℕ) (harts : ℕ) (what : Record) → ∥ RecordHasRoom rules w harts what ∥₁ → ∥ HasValidEvent harts what ∥₁
sound_of rules w harts what has = ∥∥₁_map has (by what)
  where
    by : (r : Record) → RecordHasRoom rules w harts r → HasValidEvent harts r
    by (entry.Event event) h = h.0
    by (entry.Notice hart point) h = tt
