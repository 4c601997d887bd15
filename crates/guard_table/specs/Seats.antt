-- Heads, seats and notes of a monitor, and what a hart may do there.
use Rattle.std.specs.Prelude.{◌≡◌, ℕ, ◌<◌, ◌≤◌, Bool, List, length, slice_index}
use Rattle.pl_base.specs.declared.layout.TheConstants.{LANES}
use Rattle.order_core.specs.declared.course.TheConstants.{FIRST_WORD}
use Rattle.order_core.specs.declared.course.Course.{Course}
use Rattle.order_core.specs.declared.course.Operation.{Operation}
use Rattle.order_core.specs.Lanes.{lane}
use Rattle.order_core.specs.Course.{Planned, course, last_lane}
use Rattle.order_core.specs.Lawful.{IsName}
use Rattle.order_core.specs.Core.{IsOpen, IsNextWrite}
use Rattle.guard_table.specs.declared.view.View.{View}
use Rattle.guard_table.specs.declared.put.Put.{Put}
use Rattle.guard_table.specs.declared.seats.Monitor.{Monitor}
use Rattle.guard_table.specs.declared.seats.Head.{Head}
use Rattle.guard_table.specs.declared.seats.GuardSeat.{GuardSeat}
use Rattle.guard_table.specs.declared.seats.Note.{Note}
use Rattle.guard_table.specs.Views.{known_core}
use Rattle.guard_table.specs.Puts.{IsPutOf}

abbrev pub plan_of : {P : Type 0} → Monitor P → P
plan_of m = m.plan

abbrev pub head_view : Head → View
head_view h = h.seat.me.0

abbrev pub seat_view : GuardSeat → View
seat_view s = s.seat.me.0

abbrev pub note_view : Note → View
note_view n = n.seat.me.0

-- they are of the monitor's table, and have the course of its plan
module _ {P : Type 0} (planned : P → Planned) (m : Monitor P) where
  abbrev pub IsHeadOf : Head → Type 0
  IsHeadOf h = (h.seat.table_id ≡ m.table.shared.table_id) × ((head_view h).course ≡ course planned m.plan)

  abbrev pub IsSeatOf : GuardSeat → Type 0
  IsSeatOf s = (s.seat.table_id ≡ m.table.shared.table_id) × ((seat_view s).course ≡ course planned m.plan)

  abbrev pub IsNoteOf : Note → Type 0
  IsNoteOf n = (n.seat.table_id ≡ m.table.shared.table_id) × ((note_view n).course ≡ course planned m.plan)

-- the operation a, at p, is the read of this name of the word, which is for a check or not, and the hart may make it
pub record IsReadNow (c : Course) (v : View) (number op word : ℕ) (check : Bool) (p : ℕ) (a : Operation) : Type 0 where
  pub name : IsName v.hart number op a
  pub on : a.what.word ≡ word
  pub kind : a.what.check ≡ check
  pub may : IsOpen c (known_core v) v.hart p a

-- the operation a, at p, is the write of this name of the word, it is the hart's next write, and this is what it puts
pub record IsWriteNow (c : Course) (v : View) (number op word : ℕ) (put : Put) (p : ℕ) (a : Operation) : Type 0 where
  pub name : IsName v.hart number op a
  pub on : a.what.word ≡ word
  pub next : IsNextWrite c (known_core v) v.hart p a
  pub puts : IsPutOf c p a put

-- the words are as many as at the start, and those that operations may name are as the sequential run leaves them
pub record AreLastWords (c : Course) (words : List ℕ) : Type 0 where
  pub size : length words ≡ length c.opening
  pub lanes : (w j : ℕ) → FIRST_WORD ≤ w → w < length c.opening → j < LANES
      → lane j (slice_index words w) ≡ last_lane c w j
