use Rattle.std.proofs.Common.{arith, ap, subst, sym}
use mathlib.Core.Option.{none}
use Rattle.atomic_table.specs.Table.{step}
use Rattle.order_core.specs.declared.course.Course.{Course}
use Rattle.order_core.specs.Course.{course}
use Rattle.order_core.specs.Core.{IsNextWrite}
use Rattle.order_core.proofs.Known.{known}
use Rattle.guard_table.specs.declared.put.Put.TheVariants.{Store, Flip}
use Rattle.guard_table.specs.Puts.{IsPutOf}
use Rattle.guard_table.specs.Seats.{seat_view}
use Rattle.guard_table.specs.Views.{known_core}
use Rattle.guard_table.proofs.PlayLemmas.{writes, as_many}
use Rattle.guard_table.proofs.seats.Monitor.write.Goals as goal

pub store-requires : goal.store-requires
store-requires g c =
    let plan = c.args.self.now.plan in
    let k = course g.P.Plan.planned plan in
    let v = seat_view c.args.seat.now in
    let p = c.requires.may.0 in
    let a = c.requires.may.1 in
    let may = c.requires.may.2 in
    let is : IsPutOf k p a (Store c.in-Store.value) = subst (IsPutOf k p a) c.in-Store.is may.puts in
    let high = ((known k (g.met.P.Plan.lawful plan)).inside p a may.next.0).what.high in
    let on = may.on in
    let of = c.requires.of in
    let words = as_many _ _ _ _ of.0 of.1 c.args.seat.now.on_table.0 in
    let key = ap (λ z. course g.P.Plan.planned z) c.args.self.now.key in (
      of.0,
      omega arith,
      writes (course g.P.Plan.planned c.args.self.now.table.shared.key) _ _ c.args.word c.args.seat.now.seat.me p a (Store c.in-Store.value) (step c.args.self.now.table.shared.table_id.slots c.args.word c.in-Store.value 0 none) (λ x. c.in-Store.value) c.args.seat.now.role on
          (subst (λ (z : Course). IsNextWrite z (known_core v) v.hart p a) (sym key) may.next) (subst (λ (z : Course). IsPutOf z p a (Store c.in-Store.value)) (sym key) is),
    )

pub fetch_xor-requires : goal.fetch_xor-requires
fetch_xor-requires g c =
    let plan = c.args.self.now.plan in
    let k = course g.P.Plan.planned plan in
    let v = seat_view c.args.seat.now in
    let p = c.requires.may.0 in
    let a = c.requires.may.1 in
    let may = c.requires.may.2 in
    let is : IsPutOf k p a (Flip c.in-Flip.bits) = subst (IsPutOf k p a) c.in-Flip.is may.puts in
    let high = ((known k (g.met.P.Plan.lawful plan)).inside p a may.next.0).what.high in
    let on = may.on in
    let of = c.requires.of in
    let words = as_many _ _ _ _ of.0 of.1 c.args.seat.now.on_table.0 in
    let key = ap (λ z. course g.P.Plan.planned z) c.args.self.now.key in (
      of.0,
      omega arith,
      writes (course g.P.Plan.planned c.args.self.now.table.shared.key) _ _ c.args.word c.args.seat.now.seat.me p a (Flip c.in-Flip.bits) (step c.args.self.now.table.shared.table_id.slots c.args.word c.in-Flip.bits 0 none) (λ x. x) c.args.seat.now.role on
          (subst (λ (z : Course). IsNextWrite z (known_core v) v.hart p a) (sym key) may.next) (subst (λ (z : Course). IsPutOf z p a (Flip c.in-Flip.bits)) (sym key) is),
    )
