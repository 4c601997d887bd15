-- What is known of the worker of a hart.
use Rattle.std.specs.Prelude.{◌≡◌, ℕ, ◌+◌, ◌<◌, ◌≤◌, ◌++◌, Bool, true, List, length, take, slice_index}
use Rattle.atomic_table.specs.Seated.{TableId}
use Rattle.pl_event.specs.declared.fed.Fed.{Fed}
use Rattle.pl_event.specs.Feeds.{feds_of}
use Rattle.lifeguard.specs.Rules.{Rules}
use Rattle.order_core.specs.Course.{Planned, course, length_of}
use Rattle.order_core.specs.Lawful.{IsLawful}
use Rattle.order_core.specs.Core.{IsMet}
use Rattle.order_core.specs.Counts.{writes_before}
use Rattle.guard_table.specs.declared.view.View.{View}
use Rattle.guard_table.specs.Views.{HasEight}
use Rattle.guard_table.specs.declared.seats.GuardSeat.{GuardSeat}
use Rattle.guard_table.specs.declared.seats.Monitor.{Monitor}

pub record WorkerView : Type 0 where
  -- the rules of its lifeguard, and the plan whose operations it performs
  pub rules : Rules
  pub plan : Planned
  -- of the checks in so many first records of its stream: the misses, and those misses that count as steps
  pub misses : ℕ → ℕ
  pub steps : ℕ → ℕ
  -- the table, and what its seat there knows
  pub table : TableId
  pub seat : View
  -- the records fed, and whether the stream has ended
  pub fed : List Fed
  pub ended : Bool
  -- how many of them it has taken, and for how many reports it has room
  pub taken : ℕ
  pub spare : ℕ

-- how many records the worker's hart has
abbrev pub size : WorkerView → ℕ
size v = length_of v.seat.course v.seat.hart

-- the records of the worker's hart
abbrev pub stream_of : WorkerView → List Fed
stream_of v = feds_of v.seat.hart v.seat.course.log.lines

-- its seat is of this monitor's table, and has the course of its plan
abbrev pub IsAt : {P : Type 0} → (P → Planned) → Monitor P → WorkerView → Type 0
IsAt planned m v = (v.table ≡ m.table.shared.table_id) × (v.seat.course ≡ course planned m.plan)

abbrev pub IsOfTable : TableId → GuardSeat → Type 0
IsOfTable table seat = seat.seat.table_id ≡ table

-- what a worker says of itself is true
pub record IsSound (v : WorkerView) : Type 0 where
  pub lawful : ∥ IsLawful v.seat.course ∥₁
  pub hart : v.seat.hart < v.seat.course.log.harts
  -- its seat speaks of eight harts
  pub eight : HasEight v.seat
  -- what it was fed begins its stream, and is all of it once the stream has ended
  pub fed : take (length v.fed) (stream_of v) ≡ v.fed
  pub whole : v.ended ≡ true → length v.fed ≡ size v
  -- what it has taken it was fed
  pub few : v.taken ≤ length v.fed
  pub within : v.taken ≤ size v
  -- it has seen what they need, and performed their writes and no other
  pub met : IsMet v.seat.course (slice_index v.seat.seen) v.seat.hart v.taken
  pub written : v.seat.written ≡ writes_before v.seat.course v.seat.hart (v.taken + 1) 0
  -- its progress word is at most 64 records below what it has taken
  pub told : v.seat.progress ≤ v.taken
  pub lag : v.taken ≤ v.seat.progress + 64

-- these records come next in its stream
abbrev pub IsNextFed : WorkerView → List Fed → Type 0
IsNextFed v fed = take (length v.fed + length fed) (stream_of v) ≡ v.fed ++ fed

abbrev pub has_fed : List Fed → WorkerView → WorkerView
has_fed fed v = record v { fed = v.fed ++ fed }

-- its stream was fed whole
abbrev pub IsWhole : WorkerView → Type 0
IsWhole v = v.fed ≡ stream_of v

-- only the room for reports differs, and is no less
pub record HasSpare (v w : WorkerView) : Type 0 where
  pub same : w ≡ record v { spare = w.spare }
  pub room : v.spare ≤ w.spare
