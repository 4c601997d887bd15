use Rattle.std.proofs.Common.{ℕ, ◌+◌, ◌%◌, ◌^◌, [], ◌∷◌, sym, ap, ◌∙◌, subst}
use Rattle.guard_table.specs.declared.view.View.{View}
use Rattle.guard_table.specs.Seats.{plan_of, seat_view}
use Rattle.guard_table.specs.Views.{wrote}
use Rattle.shadow_frames.specs.Frames.{fills, writes}
use Rattle.shadow_frames.specs.Words.{directory_word, frame_word, map_word}
use Rattle.worker_records.specs.Shapes.{IsDue, made}
use Rattle.worker_records.proofs.PageLemmas.{enter_due, fill_due, mark_due, placed}
use Rattle.worker_records.proofs.pages.put_page.Goals as goal

pub write_next-requires-clause-due : goal.write_next-requires-clause-due
write_next-requires-clause-due g c =
    let t = c.requires.due in
    let d = mark_due (g.P.Plan.planned (plan_of c.args.monitor.now)) (seat_view c.args.seat.now) c.args.number c.args.op c.args.frame c.args.page c.args.filling t.0 t.1 in
    ((λ x. x + 2 ^ (c.args.frame % 64)), d.0, d.1, c.with_bit-bits.ensures ∙ (ap (λ (z : ℕ). z + 2 ^ (c.args.frame % 64)) t.2 ∙ ap (λ (z : ℕ → ℕ). z (map_word c.args.frame) + 2 ^ (c.args.frame % 64)) (sym d.2)))

pub write_next-requires-2-clause-due : goal.write_next-requires-2-clause-due
write_next-requires-2-clause-due g c =
    let t = c.requires.due in
    let d = enter_due (g.P.Plan.planned (plan_of c.args.monitor.now)) (seat_view c.args.seat.now) c.args.number c.args.op c.args.frame c.args.page c.args.filling t.0 t.1 in (
      (λ _. c.args.frame + 1),
      d.0,
      subst (λ (z : View). IsDue (g.P.Plan.planned (plan_of c.args.monitor.now)) z c.args.number (c.args.op + 1) (writes (directory_word c.args.page) (λ _. c.args.frame + 1) ∷ []) d.0) (sym c.write_next.ensures.view) d.1,
      ap (λ (z : ℕ). z + 1) c.from.ensures,
    )

pub fill_frame-requires-clause-due : goal.fill_frame-requires-clause-due
fill_frame-requires-clause-due g c =
    let t = c.requires.due in
    let d = fill_due (g.P.Plan.planned (plan_of c.args.monitor.now)) (seat_view c.args.seat.now) c.args.number c.args.op c.args.frame c.args.page c.args.filling t.0 t.1 in
    (d.0, subst (λ (z : View). IsDue (g.P.Plan.planned (plan_of c.args.monitor.now)) z c.args.number (c.args.op + 2) (fills (frame_word c.args.frame) c.args.filling 256) d.0) (sym (c.write_next-2.ensures.view ∙ ap wrote c.write_next.ensures.view)) d.1)

pub returns-clause-view : goal.returns-clause-view
returns-clause-view g c = placed c.args.frame c.args.page c.args.filling (seat_view c.args.seat.now) (seat_view c.fill_frame.new.seat)
    (c.fill_frame.ensures.view ∙ ap (made (fills (frame_word c.args.frame) c.args.filling 256)) (c.write_next-2.ensures.view ∙ ap wrote c.write_next.ensures.view))
