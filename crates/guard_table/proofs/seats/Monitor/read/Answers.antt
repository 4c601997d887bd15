use Rattle.std.proofs.Common.{arith, subst, sym}
use Rattle.order_core.specs.declared.course.Course.{Course}
use Rattle.order_core.specs.Course.{course}
use Rattle.order_core.specs.Core.{IsOpen}
use Rattle.order_core.proofs.Known.{known}
use Rattle.guard_table.specs.Seats.{seat_view}
use Rattle.guard_table.specs.Views.{known_core}
use Rattle.guard_table.proofs.PlayLemmas.{reads, as_many}
use Rattle.guard_table.proofs.seats.Monitor.read.Goals as goal

pub load-requires : goal.load-requires
load-requires g c =
    let plan = c.args.self.now.plan in
    let may = c.requires.may.2 in
    let inside = (known (course g.P.Plan.planned plan) (g.met.P.Plan.lawful plan)).inside c.requires.may.0 c.requires.may.1 may.may.0 in
    let high = inside.what.high in
    let on = may.on in
    let of = c.requires.of in
    let words = as_many _ _ _ _ of.0 of.1 c.args.seat.now.on_table.0 in
    (of.0, omega arith, reads (course g.P.Plan.planned c.args.self.now.table.shared.key) _ _ c.args.word c.args.seat.now.seat.me c.args.seat.now.role)

pub returns-clause-value : goal.returns-clause-value
returns-clause-value g c p a may =
    let v = seat_view c.args.seat.now in
    c.load.ensures.2.1 p a (subst (λ (z : Course). IsOpen z (known_core v) v.hart p a) (sym c.requires.of.1) may.may) may.on
