use Rattle.std.proofs.Common.{ℕ, ◌<◌, length}
use Rattle.std.specs.Prelude.{Contains}
use Rattle.guard_table.specs.Seats.{IsHeadOf, head_view}
use Rattle.log_watch.proofs.closing.give_back_all.Given as goal

abbrev pub invariant-loop-seat : goal.invariant-loop-seat
invariant-loop-seat g l = IsHeadOf g.P.Plan.planned l.monitor l.head × ((k : ℕ) → k < length l.yielded → Contains (head_view l.head).freed k)
