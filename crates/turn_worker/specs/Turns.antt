-- What a turn does, and how it ends.
use Rattle.std.specs.Prelude.{◌≡◌, ℕ, ◌+◌, ◌-◌, ◌*◌, ◌<◌, ◌≤◌, true, false, length, slice_index}
use Rattle.pl_event.specs.Needs.{IsNeed}
use Rattle.order_core.specs.Waits.{WaitsFor}
use Rattle.guard_table.specs.Views.{known_core}
use Rattle.turn_worker.specs.declared.worker.Turn.{Turn}
use Rattle.turn_worker.specs.declared.worker.Turn.TheVariants.{Moved, Waiting, Dry, Done, NoMemory}
use Rattle.turn_worker.specs.Workers.{WorkerView}

-- a turn of at most n records leads from v to w: it takes records in order, performs their writes, looks at other
-- harts and advertises, with at most three reports a record
pub record IsLaterBy (n : ℕ) (v w : WorkerView) : Type 0 where
  pub same : w ≡ record v { seat = w.seat; taken = w.taken; spare = w.spare }
  pub seat : w.seat ≡ record v.seat {
    written = w.seat.written;
    progress = w.seat.progress;
    seen = w.seat.seen;
    looks = w.seat.looks;
  }
  pub taken : v.taken ≤ w.taken
  pub few : w.taken ≤ v.taken + n
  pub written : v.seat.written ≤ w.seat.written
  pub progress : v.seat.progress ≤ w.seat.progress
  pub seen : (u : ℕ) → slice_index v.seat.seen u ≤ slice_index w.seat.seen u
  pub looks : (u : ℕ) → slice_index v.seat.looks u ≤ slice_index w.seat.looks u
  pub spare : v.spare ≤ w.spare + 3 * (w.taken - v.taken)

-- all that was fed is taken and advertised
pub record IsUsedUp (v : WorkerView) : Type 0 where
  pub all : v.taken ≡ length v.fed
  pub told : v.seat.progress ≡ v.taken

-- a record is left, which needs record `need` of hart u; the last look there gave `seen`, which is too low, and not
-- below what was learnt. All that is taken is advertised. Of lower harts it has what it needs
pub record IsWaiting (v : WorkerView) (u need seen : ℕ) : Type 0 where
  pub left : v.taken < length v.fed
  pub told : v.seat.progress ≡ v.taken
  pub waits : WaitsFor v.seat.course (known_core v.seat) v.seat.hart u need
  pub loaded : slice_index v.seat.seen u ≡ seen
  pub learnt : slice_index v.seat.learnt u ≤ seen
  pub lowest : (t k : ℕ) → t < u → IsNeed v.seat.course.log.lines t k v.seat.hart (v.taken + 1)
      → k ≤ slice_index v.seat.seen t

-- all records of the stream are taken and advertised
pub record HasEnded (v : WorkerView) : Type 0 where
  pub ended : v.ended ≡ true
  pub used : IsUsedUp v

-- what each answer to a turn of n records says, from v to w
abbrev pub IsAnswer : ℕ → WorkerView → WorkerView → Turn → Type 0
IsAnswer n v w Moved = w.taken ≡ v.taken + n
IsAnswer n v w (Waiting u need seen) = (w.taken < v.taken + n)
    × (slice_index v.seat.looks u < slice_index w.seat.looks u) × IsWaiting w u need seen
IsAnswer n v w Dry = (w.taken < v.taken + n) × (w.ended ≡ false) × IsUsedUp w
IsAnswer n v w Done = (w.taken < v.taken + n) × HasEnded w
IsAnswer n v w NoMemory = (w.taken < v.taken + n) × (v.spare < 3 * n)
