use Rattle.std.proofs.Common.{ℕ, length, max, slice_index, ◌≡◌, ◌<◌, arith, ap, sym, subst, get_or-set_same}
use Rattle.order_core.specs.declared.course.Course.{Course}
use Rattle.order_core.specs.Course.{course}
use Rattle.order_core.proofs.Known.{known}
use Rattle.guard_table.specs.declared.view.View.{View}
use Rattle.guard_table.specs.Seats.{seat_view, note_view}
use Rattle.guard_table.proofs.PlayLemmas.{learns, as_many, nine_words}
use Rattle.guard_table.proofs.seats.Monitor.learn.Goals as goal

pub join_seat-requires : goal.join_seat-requires
join_seat-requires g c =
    let plan = c.args.self.now.plan in
    let many = nine_words (course g.P.Plan.planned plan) (g.met.P.Plan.lawful plan) in
    let of = c.requires.of in
    let words = as_many _ _ _ _ of.0 of.1 c.args.seat.now.on_table.0 in (
      of.0,
      c.requires.note.0,
      c.args.note.on_table.1,
      omega arith,
      learns (course g.P.Plan.planned c.args.self.now.table.shared.key) _ c.args.seat.now.seat.me.0 _ c.args.note.seat.me.0 c.args.seat.now.role c.args.note.role,
    )

pub returns-clause-learnt : goal.returns-clause-learnt
returns-clause-learnt g c =
    let plan = c.args.self.now.plan in
    let few = (known (course g.P.Plan.planned plan) (g.met.P.Plan.lawful plan)).harts in
    let v = seat_view c.args.seat.now in
    let n = note_view c.args.note in
    let most : ℕ = max (slice_index v.learnt n.hart) n.progress in
    let inside : n.hart < n.course.log.harts = subst (λ (z : ℕ). z < n.course.log.harts) (sym c.args.note.own_hart) c.args.note.inside in
    let harts : n.course.log.harts ≡ (course g.P.Plan.planned plan).log.harts = ap (λ (z : Course). z.log.harts) c.requires.note.1 in
    let eight : length v.learnt ≡ 8 = c.args.seat.now.eight.1 in
    subst (λ (z : View). slice_index z.learnt n.hart ≡ most) (sym (ap (λ z. z.0) c.join_seat.ensures.2)) (get_or-set_same v.learnt n.hart most 0 (omega arith))
