use Rattle.std.proofs.Common.{◌<◌, sym, ◌∙◌, subst, ap}
use Rattle.std.specs.Prelude.{slice_index_or, None}
use Rattle.order_core.specs.declared.course.Course.{Course}
use Rattle.guard_table.specs.Seats.{seat_view}
use Rattle.lifeguard_worker.proofs.LookLemmas.{needed}
use Rattle.lifeguard_worker.proofs.needs.look.Goals as goal

pub seen-seen-requires-clause-inside : goal.seen-seen-requires-clause-inside
seen-seen-requires-clause-inside g c =
    let v = seat_view c.args.seat.now in
    let need = c.requires.needs in
    subst (λ (z : Course). c.args.hart < z.log.harts) c.requires.of.1
    (needed v.course c.requires.lawful v.hart need.0 c.args.hart c.in_ok-need.need c.requires.inside
    (sym (ap (λ z. slice_index_or z c.args.hart None) need.1) ∙ (sym c.get.ensures ∙ c.in_ok-need.was))).1

pub seen-seen-requires-clause-other : goal.seen-seen-requires-clause-other
seen-seen-requires-clause-other g c =
    let v = seat_view c.args.seat.now in
    let need = c.requires.needs in
    (needed v.course c.requires.lawful v.hart need.0 c.args.hart c.in_ok-need.need c.requires.inside
    (sym (ap (λ z. slice_index_or z c.args.hart None) need.1) ∙ (sym c.get.ensures ∙ c.in_ok-need.was))).0
