use Rattle.std.proofs.Common.{◌≡◌, ℕ, ◌+◌, ◌/◌, ◌%◌, ◌<◌, false, List, Some, sym, ap, ◌∙◌, subst, arith}
use Rattle.std.specs.Prelude.{Option, slice_index}
use Rattle.guard_table.specs.declared.view.View.{View}
use Rattle.guard_table.specs.Seats.{plan_of, seat_view}
use Rattle.shadow_frames.specs.Frames.{frame_or_none, lowest_free}
use Rattle.shadow_frames.specs.Words.{bit, is_used, map_word}
use Rattle.worker_records.specs.Shapes.{IsDue, Midst}
use Rattle.worker_records.specs.Pages.{place_shapes}
use Rattle.worker_records.proofs.PageLemmas.{frame_is, map_due, no_frame, page_made, place_due}
use Rattle.worker_records.proofs.pages.map_page.Goals as goal

-- the frame that is found is the lowest free one of the words that the frame map was read from
free_is : (w : ℕ → ℕ) (map : List ℕ) (frame : ℕ) → frame < 512 → ((i : ℕ) → i < 8 → w (9 + i) ≡ slice_index map i) → slice_index map (frame / 64) ≡ w (map_word frame)
free_is w map frame lt each = sym (each (frame / 64) (omega arith))

free_bit : (w : ℕ → ℕ) (f frame bits : ℕ) → frame ≡ f → bits ≡ w (map_word frame) → is_used w f ≡ false → bit bits (frame % 64) ≡ false
free_bit w f frame bits e is off = ap (λ (z : ℕ). bit z (frame % 64)) is ∙ (ap (is_used w) e ∙ off)

below : (f frame : ℕ) → frame ≡ f → f < 512 → frame < 512
below f frame e lt = subst (λ (z : ℕ). z < 512) (sym e) lt

pub read_map-map-requires-clause-due : goal.read_map-map-requires-clause-due
read_map-map-requires-clause-due g c =
    let t = c.requires.due in
    (_, map_due (g.P.Plan.planned (plan_of c.args.monitor.now)) (seat_view c.args.seat.now) c.args.number c.args.op c.args.page c.args.filling t.0 t.1)

-- what is known of the frame, where it is the one that the words' frame map gives
module _ (w : ℕ → ℕ) (map : List ℕ) (each : (i : ℕ) → i < 8 → w (9 + i) ≡ slice_index map i) (found : Option ℕ) (is : ((i : ℕ) → i < 8 → w (9 + i) ≡ slice_index map i) → found ≡ frame_or_none (lowest_free w)) (short wide : ℕ) (some : found ≡ Some short) (same : wide ≡ short) where
  frame : wide ≡ lowest_free w
  frame = same ∙ frame_is (lowest_free w) short found (is each) some

  low : lowest_free w < 512 → wide < 512
  low lt = below (lowest_free w) wide frame lt

  bits_are : lowest_free w < 512 → slice_index map (wide / 64) ≡ w (map_word wide)
  bits_are lt = free_is w map wide (low lt) each

  not_used : lowest_free w < 512 → is_used w (lowest_free w) ≡ false → bit (slice_index map (wide / 64)) (wide % 64) ≡ false
  not_used lt off = free_bit w (lowest_free w) wide (slice_index map (wide / 64)) frame (bits_are lt) off

pub bounds-map-frame : goal.bounds-map-frame
bounds-map-frame g c =
    let t = c.requires.due in
    let l : c.from-frame.result < 512 = low t.0.words c.read_map-map.result (c.read_map-map.ensures.map _ (map_due (g.P.Plan.planned (plan_of c.args.monitor.now)) (seat_view c.args.seat.now) c.args.number c.args.op c.args.page c.args.filling t.0 t.1)) c.free_frame.result (c.free_frame.ensures t.0.words) c.in-Some.frame c.from-frame.result c.in-Some.is c.from-frame.ensures t.2 in
    omega (arith, l)

pub put_page-requires-clause-frame : goal.put_page-requires-clause-frame
put_page-requires-clause-frame g c =
    let t = c.requires.due in
    low t.0.words c.read_map-map.result (c.read_map-map.ensures.map _ (map_due (g.P.Plan.planned (plan_of c.args.monitor.now)) (seat_view c.args.seat.now) c.args.number c.args.op c.args.page c.args.filling t.0 t.1)) c.free_frame.result (c.free_frame.ensures t.0.words) c.in-Some.frame c.from-frame.result c.in-Some.is c.from-frame.ensures t.2

pub put_page-requires-clause-free : goal.put_page-requires-clause-free
put_page-requires-clause-free g c =
    let t = c.requires.due in
    not_used t.0.words c.read_map-map.result (c.read_map-map.ensures.map _ (map_due (g.P.Plan.planned (plan_of c.args.monitor.now)) (seat_view c.args.seat.now) c.args.number c.args.op c.args.page c.args.filling t.0 t.1)) c.free_frame.result (c.free_frame.ensures t.0.words) c.in-Some.frame c.from-frame.result c.in-Some.is c.from-frame.ensures t.2 t.3

pub put_page-requires-clause-due : goal.put_page-requires-clause-due
put_page-requires-clause-due g c =
    let t = c.requires.due in
    let plan = g.P.Plan.planned (plan_of c.args.monitor.now) in
    let v = seat_view c.args.seat.now in
    let each = c.read_map-map.ensures.map _ (map_due plan v c.args.number c.args.op c.args.page c.args.filling t.0 t.1) in
    let e : c.from-frame.result ≡ lowest_free t.0.words = frame t.0.words c.read_map-map.result each c.free_frame.result (c.free_frame.ensures t.0.words) c.in-Some.frame c.from-frame.result c.in-Some.is c.from-frame.ensures in
    let n : Midst = record t.0 { words = t.0.words } in (
      n,
      subst (λ (z : View). IsDue plan z c.args.number (c.args.op + 8) (place_shapes c.from-frame.result c.args.page c.args.filling) n) (sym c.read_map-map.ensures.view)
          (place_due plan v c.args.number c.args.op c.args.page c.args.filling t.0 t.1 c.from-frame.result e),
      bits_are t.0.words c.read_map-map.result each c.free_frame.result (c.free_frame.ensures t.0.words) c.in-Some.frame c.from-frame.result c.in-Some.is c.from-frame.ensures t.2,
    )

pub returns-in-Some-clause-view : goal.returns-in-Some-clause-view
returns-in-Some-clause-view g c m due =
    let plan = g.P.Plan.planned (plan_of c.args.monitor.now) in
    let v = seat_view c.args.seat.now in
    let e : c.from-frame.result ≡ lowest_free m.words = frame m.words c.read_map-map.result (c.read_map-map.ensures.map _ (map_due plan v c.args.number c.args.op c.args.page c.args.filling m due)) c.free_frame.result (c.free_frame.ensures m.words) c.in-Some.frame c.from-frame.result c.in-Some.is c.from-frame.ensures in
    page_made m.words c.from-frame.result c.args.page c.args.filling v (seat_view c.read_map-map.new.seat) (seat_view c.put_page.new.seat) e c.read_map-map.ensures.view c.put_page.ensures.view

pub returns-in_default-clause-view : goal.returns-in_default-clause-view
returns-in_default-clause-view g c m due =
    let t = c.requires.due in
    let each = c.read_map-map.ensures.map _ (map_due (g.P.Plan.planned (plan_of c.args.monitor.now)) (seat_view c.args.seat.now) c.args.number c.args.op c.args.page c.args.filling t.0 t.1) in
    no_frame _ (lowest_free t.0.words) c.free_frame.result t.2 (c.free_frame.ensures t.0.words each) c.in_default.is
