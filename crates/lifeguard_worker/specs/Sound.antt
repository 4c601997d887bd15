-- What a worker says of itself is true.
use Rattle.std.specs.Prelude.{◌≡◌, ℕ, ◌+◌, ◌<◌, ◌≤◌, Bool, List, length, take}
use Rattle.std.proofs.Common.{sym, ap, ◌∙◌, subst}
use Rattle.std.proofs.lemmas.List.{length-take-le}
use Rattle.lifeguard.specs.Rules.{Rules}
use Rattle.order_core.specs.declared.course.Course.{Course}
use Rattle.order_core.specs.Counts.{writes_before}
use Rattle.guard_table.specs.declared.seats.GuardSeat.{GuardSeat}
use Rattle.guard_table.specs.Seats.{seat_view}
use Rattle.turn_worker.specs.Workers.{IsSound}
use Rattle.worker_records.specs.declared.state.State.{State}
use Rattle.lifeguard_worker.specs.Rows.{Item}
use Rattle.lifeguard_worker.specs.Workers.{IsWorker, stream_of, table_of, worker_view}

pub is_sound : (rules : Rules) (seat : GuardSeat) (s : State) (told before : ℕ) (stream : List Item) (fed : ℕ)
    → (ended : Bool) → IsWorker rules (seat_view seat) s told before stream fed ended
    → IsSound (worker_view rules (table_of seat) (seat_view seat) s fed ended)
is_sound rules seat s told before stream fed ended is =
    let v = seat_view seat in
    let all : length (take fed (stream_of v)) ≡ fed = length-take-le fed (stream_of v) is.within in
    record {
      lawful = is.run.lawful;
      hart = subst (λ (h : ℕ). h < v.course.log.harts) (sym seat.own_hart) seat.inside;
      eight = seat.eight;
      fed = ap (λ (n : ℕ). take n (stream_of v)) all;
      whole = λ e. all ∙ is.whole e;
      few = subst (λ (n : ℕ). s.taken ≤ n) (sym all) is.few;
      within = is.kept.taken.within;
      met = is.kept.taken.met;
      written = is.kept.taken.written
          ∙ ap (λ (c : Course). writes_before c v.hart (s.taken + 1) 0) (sym is.run.planned);
      told = is.kept.taken.told;
      lag = is.kept.taken.lag;
    }
