use Rattle.std.proofs.Common.{◌≡◌, ℕ, ◌+◌, ◌-◌, ◌++◌, List, drop, length, map, take, sym, ap, subst, arith}
use Rattle.pl_event.specs.declared.fed.Fed.{Fed}
use Rattle.guard_table.specs.Seats.{seat_view}
use Rattle.turn_worker.specs.Workers.{IsNextFed, WorkerView}
use Rattle.lifeguard_worker.specs.Rows.{item_of}
use Rattle.lifeguard_worker.specs.Workers.{IsWorker, items_of, table_of}
use Rattle.lifeguard_worker.proofs.FeedingLemmas.{fed_small, next_kept, worker_fed, worker_grown}
use Rattle.lifeguard_worker.proofs.turns.WorkerTurnWorker.feed.Goals as goal

pub add_fed-requires-clause-next : goal.add_fed-requires-clause-next
add_fed-requires-clause-next g c =
    let w = c.forget.new.self in
    let v = seat_view w.seat in
    let items = c.args.fed.items in
    let next = subst (λ (z : WorkerView). IsNextFed z items) (sym c.forget.ensures) c.requires in
    let kept = next_kept (g.L.Lifeguard.rules w.guard) (table_of w.seat) v w.state w.told w.before w.stream w.fed w.ended w.is items next in (
      drop w.before (items_of v),
      w.is.follows,
      subst (λ (z : List Fed). take (w.fed - w.before + length z) (drop w.before (items_of v)) ≡ take (w.fed - w.before) w.stream ++ map item_of z) (sym c.deref.ensures.value) kept,
    )

pub overflow_add-self : goal.overflow_add-self
overflow_add-self g c =
    let w = c.forget.new.self in
    let next = subst (λ (z : WorkerView). IsNextFed z c.args.fed.items) (sym c.forget.ensures) c.requires in
    let small = fed_small (g.L.Lifeguard.rules w.guard) (table_of w.seat) (seat_view w.seat) w.state w.told w.before w.stream w.fed w.ended w.is c.args.fed.items next (g.met.L.Lifeguard.lawful w.guard) in
    omega (arith, small, c.len.ensures, c.args.fed.ok.0)

pub invariant_of-self : goal.invariant_of-self
invariant_of-self g c =
    let w = c.forget.new.self in
    let v = seat_view w.seat in
    let rules = g.L.Lifeguard.rules w.guard in
    let items = c.args.fed.items in
    let next = subst (λ (z : WorkerView). IsNextFed z items) (sym c.forget.ensures) c.requires in
    let kept = next_kept rules (table_of w.seat) v w.state w.told w.before w.stream w.fed w.ended w.is items next in
    let begins = c.add_fed.ensures.begins (drop w.before (items_of v)) w.is.follows
    (subst (λ (z : List Fed). take (w.fed - w.before + length z) (drop w.before (items_of v)) ≡ take (w.fed - w.before) w.stream ++ map item_of z) (sym c.deref.ensures.value) kept) in
    let same = ap (λ (z : List Fed). length z) c.deref.ensures.value in
    let len : length items ≡ c.len.result = omega (arith, c.len.ensures, c.args.fed.ok.0) in
    record {
      is = subst (λ (n : ℕ). IsWorker rules v w.state w.told w.before c.add_fed.new.stream (w.fed + n) w.ended) len
          (worker_fed rules (table_of w.seat) v w.state w.told w.before w.stream w.fed w.ended w.is items next c.add_fed.new.stream begins (omega (arith, c.in-Ok.ensures.all, same)));
    }

pub invariant_of-self-in-Err : goal.invariant_of-self-in-Err
invariant_of-self-in-Err g c =
    let w = c.forget.new.self in
    let v = seat_view w.seat in
    let rules = g.L.Lifeguard.rules w.guard in
    let items = c.args.fed.items in
    let next = subst (λ (z : WorkerView). IsNextFed z items) (sym c.forget.ensures) c.requires in
    let kept = next_kept rules (table_of w.seat) v w.state w.told w.before w.stream w.fed w.ended w.is items next in
    let begins = c.add_fed.ensures.begins (drop w.before (items_of v)) w.is.follows
    (subst (λ (z : List Fed). take (w.fed - w.before + length z) (drop w.before (items_of v)) ≡ take (w.fed - w.before) w.stream ++ map item_of z) (sym c.deref.ensures.value) kept) in
    record { is = worker_grown rules v w.state w.told w.before w.stream c.add_fed.new.stream w.fed w.ended w.is begins c.add_fed.ensures.more }
