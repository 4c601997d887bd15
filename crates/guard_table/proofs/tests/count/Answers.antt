use Rattle.std.proofs.Common.{◌≡◌, ◌+◌, ◌<◌, ◌≤◌, ℕ, arith, ap, sym, ◌∙◌, subst}
use Rattle.order_core.specs.declared.course.Operation.{Operation}
use Rattle.order_core.specs.Course.{course_of}
use Rattle.guard_table.specs.declared.put.Put.TheVariants.{Store}
use Rattle.guard_table.specs.Seats.{seat_view, IsWriteNow}
use Rattle.guard_table.specs.inner.TestPlans.{two_words}
use Rattle.guard_table.proofs.CountLemmas.{may_count, has_counted}
use Rattle.guard_table.proofs.tests.count.Goals as goal

pub write-requires-clause-may : goal.write-requires-clause-may
write-requires-clause-may c =
    let v = seat_view c.loop-i.seat in
    let inv = c.loop-i.invariant in
    let low : v.hart < 2 = subst (λ (z : ℕ). z < 2) (sym inv.1) c.requires.hart in
    let word : 9 + v.hart ≡ 9 + c.hart.result = ap (λ (z : ℕ). 9 + z) (inv.1 ∙ sym c.hart.ensures.hart) in
    subst (λ (z : ℕ). (p : ℕ) × (a : Operation) × IsWriteNow (course_of (two_words c.args.monitor.now.plan.count)) v 1 c.loop-i.i z (Store (c.loop-i.i + 1)) p a) word
    (may_count c.args.monitor.now.plan.count c.args.monitor.now.plan.few v c.loop-i.i low inv.2 (omega arith))

pub advertise-requires-clause-passed : goal.advertise-requires-clause-passed
advertise-requires-clause-passed c =
    let v = seat_view c.loop-i.seat in
    let inv = c.loop-i.invariant in
    let low : v.hart < 2 = subst (λ (z : ℕ). z < 2) (sym inv.1) c.requires.hart in
    has_counted c.args.monitor.now.plan.count c.args.monitor.now.plan.few v low (inv.2 ∙ omega arith)
