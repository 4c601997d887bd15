-- What a worker keeps, and what contracts see of it.
use Rattle.std.specs.Prelude.{◌≡◌, ℕ, ◌+◌, ◌≤◌, Bool, true, false, List, [], drop, length, map, take}
use Rattle.atomic_table.specs.Seated.{TableId}
use Rattle.pl_event.specs.declared.fed.Fed.{Fed}
use Rattle.pl_event.specs.Feeds.{feds_of}
use Rattle.lifeguard.specs.Rules.{Rules}
use Rattle.order_core.specs.Course.{course_of, length_of}
use Rattle.order_core.specs.Lawful.{IsLawful}
use Rattle.guard_table.specs.declared.seats.GuardSeat.{GuardSeat}
use Rattle.guard_table.specs.declared.view.View.{View}
use Rattle.log_plan.specs.Plans.{plan_of}
use Rattle.turn_worker.specs.Workers.{WorkerView}
use Rattle.worker_laws.specs.Folds.{misses_at, steps_at}
use Rattle.worker_laws.specs.Kept.{Kept}
use Rattle.worker_records.specs.declared.state.State.{State}
use Rattle.worker_records.specs.Places.{run_at}
use Rattle.worker_records.specs.States.{parts_of, spare}
use Rattle.lifeguard_worker.specs.Rows.{Item, item_of}

-- the table of a seat
abbrev pub table_of : GuardSeat → TableId
table_of seat = seat.seat.table_id

-- the records of the seat's hart
abbrev pub stream_of : View → List Fed
stream_of v = feds_of v.hart v.course.log.lines

-- what a worker uses of them
abbrev pub items_of : View → List Item
items_of v = map item_of (stream_of v)

-- these records follow so many first ones in the hart's stream
abbrev pub Follows : View → ℕ → List Item → Type 0
Follows v before kept = take (length kept) (drop before (items_of v)) ≡ kept

-- the seat is of a lawful run, whose operations are those of its log under these rules
pub record IsOfRun (rules : Rules) (v : View) : Type 0 where
  pub lawful : ∥ IsLawful v.course ∥₁
  pub planned : v.course ≡ course_of (plan_of rules v.course.log)

-- a worker whose seat has this view: what it keeps is right after the records taken, `told` is its progress word. So
-- many records of its hart's stream were fed, and all once the stream has ended. Those `before` the records that it
-- has are taken and forgotten
pub record IsWorker (rules : Rules) (v : View) (s : State) (told before : ℕ) (stream : List Item) (fed : ℕ)
    (ended : Bool) : Type 0 where
  pub run : IsOfRun rules v
  pub kept : Kept (run_at rules v) v.hart v s.taken (parts_of s)
  pub progress : v.progress ≡ told
  pub forgotten : before ≤ s.taken
  pub follows : Follows v before stream
  pub inside : fed ≤ before + length stream
  pub within : fed ≤ length (stream_of v)
  pub few : s.taken ≤ fed
  pub whole : ended ≡ true → fed ≡ length_of v.course v.hart

-- all that contracts see of a worker with these rules, whose seat at this table has this view
abbrev pub worker_view : Rules → TableId → View → State → ℕ → Bool → WorkerView
worker_view rules table v s fed ended = record {
  rules = rules;
  plan = plan_of rules v.course.log;
  misses = misses_at (run_at rules v) v.hart;
  steps = steps_at (run_at rules v) v.hart;
  table = table;
  seat = v;
  fed = take fed (stream_of v);
  ended = ended;
  taken = s.taken;
  spare = spare s;
}

-- a worker that has done nothing, and has no room for reports
abbrev pub first_worker : Rules → TableId → View → WorkerView
first_worker rules table v = record {
  rules = rules;
  plan = plan_of rules v.course.log;
  misses = misses_at (run_at rules v) v.hart;
  steps = steps_at (run_at rules v) v.hart;
  table = table;
  seat = v;
  fed = [];
  ended = false;
  taken = 0;
  spare = 0;
}
