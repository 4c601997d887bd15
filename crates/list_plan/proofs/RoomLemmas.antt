-- The records of a run's log have room.
use Rattle.std.proofs.Common.{◌≡◌, ℕ, ◌+◌, ◌%◌, ◌^◌, ◌<◌, ◌≤◌, List, [], ◌∷◌, All, Some, slice_get, ap, subst, arith}
use Rattle.std.proofs.lemmas.List.Elements.{All-nil, All-cons}
use denote.Struct.Props.{props}
use mathlib.Core.Option.{some}
use lib.ListN.{get_elem?}
use Rattle.pl_base.specs.declared.widths.StoreWidth.{StoreWidth}
use Rattle.pl_base.specs.declared.widths.StoreWidth.TheVariants as store
use Rattle.pl_base.specs.Widths.{store_bytes}
use Rattle.pl_event.specs.declared.event.Kind.{Kind}
use Rattle.pl_event.specs.declared.event.Kind.TheVariants.{Ld, St, Op, Mv, Im, Br, Jr, Al, Fr, Bf, Mp, Um, Rd, Wr, Ex, Ft}
use Rattle.pl_event.specs.declared.log.Line.{Line}
use Rattle.pl_event.specs.declared.log.Log.{Log}
use Rattle.pl_event.specs.declared.log.PageKind.TheVariants.{Data}
use Rattle.pl_event.specs.declared.log.PageRun.{PageRun}
use Rattle.pl_event.specs.declared.log.Record.{Record}
use Rattle.pl_event.specs.declared.log.Record.TheVariants as entry
use Rattle.pl_event.specs.OpeningPages.{RiseFrom}
use Rattle.pl_event.specs.Runs.{IsRunLog, IsSoundLine, IsSoundRecord}
use Rattle.pl_event.specs.Valid.{HasValidFields, IsAligned}
use Rattle.pl_event.proofs.MappedPages.{line_holds}
use Rattle.pl_event.proofs.Places.{inside}
use Rattle.lifeguard.specs.Rules.{Rules, KeepsLaws}
use Rattle.lifeguard.specs.State.{Masks}
use Rattle.order_core.specs.Shapes.{AreSoundShapes}
use Rattle.order_core.specs.Filled.{words_after}
use Rattle.shadow_frames.specs.Words.{all_nibbles}
use Rattle.shadow_layout.specs.Operations.{shapes}
use Rattle.shadow_layout.specs.Logs.{log_shapes, line_shapes, record_shapes, state_before}
use Rattle.shadow_layout.proofs.LogLemmas.{sound_at}
use Rattle.log_plan.specs.Plans.{opening_list}
use Rattle.log_plan.proofs.PlanLemmas.{is}
use Rattle.list_plan.specs.inner.Rooms.{HasRoom, RecordHasRoom}
use Rattle.list_plan.proofs.FrameLemmas.{has_frames}

-- ---- what is known in one way only

pub valid_prop : (kind : Kind) → IsProp (HasValidFields kind)
valid_prop (Ld width rd rb addr) = hlevel props
valid_prop (St width rv rb addr) = hlevel props
valid_prop (Op rd r1 r2) = hlevel props
valid_prop (Mv rd rs) = hlevel props
valid_prop (Im rd) = hlevel props
valid_prop (Br r1 r2) = hlevel props
valid_prop (Jr rd rs) = hlevel props
valid_prop (Al addr len) = hlevel props
valid_prop (Fr addr len) = hlevel props
valid_prop (Bf addr) = hlevel props
valid_prop (Mp page count) = hlevel props
valid_prop (Um page count) = hlevel props
valid_prop (Rd addr len) = hlevel props
valid_prop (Wr addr len) = hlevel props
valid_prop Ex = hlevel props
valid_prop (Ft cause addr) = hlevel props

pub rise_prop : (from : ℕ) (runs : List PageRun) → IsProp (RiseFrom from runs)
rise_prop from [] = hlevel props
rise_prop from (run ∷ runs) = let rest : IsProp (RiseFrom (run.first + run.count) runs) = rise_prop (run.first + run.count) runs in hlevel (props, rest)

pub all_inside : (from : ℕ) (runs : List PageRun) → RiseFrom from runs → All (λ (run : PageRun). run.first + run.count ≤ 4096) runs
all_inside from [] r = All-nil (λ (run : PageRun). run.first + run.count ≤ 4096)
all_inside from (run ∷ runs) r = All-cons (λ (run : PageRun). run.first + run.count ≤ 4096) run runs r.0.3 (all_inside (run.first + run.count) runs r.2)

-- ---- room

store_inside : (width : StoreWidth) (addr : ℕ) → IsAligned addr (store_bytes width) → addr + store_bytes width ≤ 2 ^ 24
store_inside store.B addr a = let l : addr < 2 ^ 24 = a.0 in omega arith
store_inside store.H addr a = let l : addr < 2 ^ 24 = a.0 in let e : addr % 2 ≡ 0 = a.1 in omega arith
store_inside store.W addr a = let l : addr < 2 ^ 24 = a.0 in let e : addr % 4 ≡ 0 = a.1 in omega arith

kind_room : (rules : Rules) (size hart : ℕ) (masks : Masks) (w : ℕ → ℕ) (kind : Kind) → HasValidFields kind → AreSoundShapes 135185 (shapes rules size hart masks w kind) → HasRoom rules w kind
kind_room rules size hart masks w (Ld width rd rb addr) v s = v.2.0
kind_room rules size hart masks w (St width rv rb addr) v s = store_inside width addr v.2
kind_room rules size hart masks w (Op rd r1 r2) v s = tt
kind_room rules size hart masks w (Mv rd rs) v s = tt
kind_room rules size hart masks w (Im rd) v s = tt
kind_room rules size hart masks w (Br r1 r2) v s = tt
kind_room rules size hart masks w (Jr rd rs) v s = tt
kind_room rules size hart masks w (Al addr len) v s = v.3
kind_room rules size hart masks w (Fr addr len) v s = v.3
kind_room rules size hart masks w (Bf addr) v s = tt
kind_room rules size hart masks w (Mp page count) v s = (v.3, has_frames (all_nibbles (rules.page_state Data)) w page count s)
kind_room rules size hart masks w (Um page count) v s = v.3
kind_room rules size hart masks w (Rd addr len) v s = v.3
kind_room rules size hart masks w (Wr addr len) v s = v.3
kind_room rules size hart masks w Ex v s = tt
kind_room rules size hart masks w (Ft cause addr) v s = tt

pub line_shapes_are : (rules : Rules) (log : Log) (i : ℕ) (w : ℕ → ℕ) (line : Line) → slice_get log.lines i ≡ Some line → log_shapes rules log i w ≡ record_shapes rules log.block (state_before rules log i) w line.what
line_shapes_are rules log i w line at = ap (line_shapes rules log.block (state_before rules log i) w) at

pub record_room : (rules : Rules) → KeepsLaws rules → (log : Log) → IsRunLog log → (i : ℕ) (line : Line) → slice_get log.lines i ≡ Some line → get_elem? log.lines i ≡ some line
    → RecordHasRoom rules (words_after (log_shapes rules log) (opening_list rules log.pages) i) log.harts line.what
record_room rules laws log run i line here at =
    let w : ℕ → ℕ = words_after (log_shapes rules log) (opening_list rules log.pages) i in
    let sound = sound_at rules laws log run (opening_list rules log.pages) (is rules laws log run) i (inside log.lines i line at) in
    let valid : IsSoundRecord log.harts line.arcs line.what = (line_holds (IsSoundLine log.harts) log.lines run.sound i line at).1 in
    by line.what valid (subst (AreSoundShapes 135185) (line_shapes_are rules log i (words_after (log_shapes rules log) (opening_list rules log.pages) i) line here) sound.0)
  where
    by : (r : Record) → IsSoundRecord log.harts line.arcs r → AreSoundShapes 135185 (record_shapes rules log.block (state_before rules log i) (words_after (log_shapes rules log) (opening_list rules log.pages) i) r)
        → RecordHasRoom rules (words_after (log_shapes rules log) (opening_list rules log.pages) i) log.harts r
    by (entry.Event event) v s = (v, kind_room rules log.block event.hart (state_before rules log i).masks (words_after (log_shapes rules log) (opening_list rules log.pages) i) event.kind v.1 s)
    by (entry.Notice hart point) v s = tt
