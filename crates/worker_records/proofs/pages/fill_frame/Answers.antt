use Rattle.std.proofs.Common.{◌+◌, [], ◌∷◌, refl, sym, subst}
use Rattle.guard_table.specs.declared.view.View.{View}
use Rattle.guard_table.specs.Seats.{plan_of, seat_view}
use Rattle.shadow_frames.specs.Frames.{writes}
use Rattle.shadow_frames.specs.Words.{frame_word}
use Rattle.worker_records.specs.Shapes.{IsDue}
use Rattle.worker_records.proofs.PageLemmas.{fill_at, fill_more}
use Rattle.worker_records.proofs.ShapeLemmas.{made_none}
use Rattle.worker_records.proofs.pages.fill_frame.Goals as goal

pub loop-i-init : goal.loop-i-init
loop-i-init g c = record { of = c.requires.of; view = sym (made_none (seat_view c.args.seat.now)) }

pub write_next-requires-clause-due : goal.write_next-requires-clause-due
write_next-requires-clause-due g c =
    let t = c.requires.due in
    let plan = g.P.Plan.planned (plan_of c.args.monitor.now) in
    let d = fill_at plan (seat_view c.args.seat.now) c.args.number c.args.op t.0 (frame_word c.args.frame) c.args.filling 256 c.loop-i.i c.loop-i-test.true t.1 in
    ((λ _. c.args.filling), d.0, subst (λ (z : View). IsDue plan z c.args.number (c.args.op + c.loop-i.i) (writes (frame_word c.args.frame + c.loop-i.i) (λ _. c.args.filling) ∷ []) d.0) (sym c.loop-i.invariant.view) d.1, refl)

pub loop-i-preserved : goal.loop-i-preserved
loop-i-preserved g c = record {
  of = c.write_next.ensures.of;
  view = fill_more (frame_word c.args.frame) c.args.filling c.loop-i.i (seat_view c.args.seat.now) (seat_view c.loop-i.seat) (seat_view c.write_next.new.seat) c.loop-i.invariant.view c.write_next.ensures.view;
}
