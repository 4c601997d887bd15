use Rattle.std.proofs.Common.{◌≡◌}
use Rattle.order_core.specs.Course.{course_of}
use Rattle.guard_table.specs.Seats.{seat_view, IsSeatOf}
use Rattle.guard_table.specs.inner.TestPlans.{two_words}
use Rattle.guard_table.proofs.tests.count.Given as goal

abbrev pub invariant-loop-i : goal.invariant-loop-i
invariant-loop-i l =
    IsSeatOf (λ plan. two_words plan.count) l.monitor l.seat × ((seat_view l.seat).hart ≡ (seat_view l.initial.seat).hart)
    × ((seat_view l.seat).written ≡ l.i) × ((seat_view l.seat).progress ≡ 0)
