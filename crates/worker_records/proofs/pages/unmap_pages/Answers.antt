use Rattle.std.proofs.Common.{◌≡◌, sym, ap, subst}
use Rattle.guard_table.specs.declared.view.View.{View}
use Rattle.guard_table.specs.Seats.{plan_of, seat_view}
use Rattle.log_plan.specs.Plans.{plan_of as log_plan_of}
use Rattle.order_core.specs.declared.course.Course.{Course}
use Rattle.worker_records.proofs.MapLemmas.{unmap_next, unmap_now}
use Rattle.worker_records.proofs.ShapeLemmas.{made_none}
use Rattle.worker_records.proofs.pages.unmap_pages.Goals as goal

pub loop-i-init : goal.loop-i-init
loop-i-init g c = record { at = c.requires.at; view = sym (made_none (seat_view c.args.seat.now)) }

pub unmap_page-requires-clause-due : goal.unmap_page-requires-clause-due
unmap_page-requires-clause-due g c = unmap_now (g.L.Lifeguard.rules c.args.guard) (seat_view c.args.seat.now) c.args.number c.args.page c.args.count c.requires.pages (g.P.Plan.planned (plan_of c.args.monitor.now)) (sym c.requires.at.plan)
    c.loop-i.i c.loop-i-test.true (seat_view c.loop-i.seat) c.requires.amid c.loop-i.invariant.view

pub loop-i-preserved : goal.loop-i-preserved
loop-i-preserved g c =
    let plan = g.P.Plan.planned (plan_of c.args.monitor.now) in
    let next = unmap_next (g.L.Lifeguard.rules c.args.guard) (seat_view c.args.seat.now) c.args.number c.args.page c.args.count c.requires.pages plan (sym c.requires.at.plan)
    c.loop-i.i c.loop-i-test.true (seat_view c.loop-i.seat) c.requires.amid c.loop-i.invariant.view (seat_view c.unmap_page.new.seat) c.unmap_page.ensures.view in
    record {
      at = record { of = c.unmap_page.ensures.of; plan = subst (λ (z : Course). plan ≡ log_plan_of (g.L.Lifeguard.rules c.args.guard) z.log) (sym (ap (λ (z : View). z.course) next)) c.requires.at.plan };
      view = next;
    }
