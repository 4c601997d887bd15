-- Slots, and rows of them.
use Rattle.std.specs.Prelude.{◌≡◌, ◌⊎◌, ℕ, List, slice_index_or}
use Rattle.order_core.specs.Course.{Planned}
use Rattle.guard_table.specs.declared.seats.Monitor.{Monitor}
use Rattle.guard_table.specs.Seats.{seat_view}
use Rattle.turn_worker.specs.Workers.{WorkerView, IsOfTable}
use Rattle.turn_worker.specs.Turns.{HasEnded}
use Rattle.turn_worker.specs.Results.{IsResult}
use Rattle.lifeguard_crew.specs.declared.slot.Slot.{Slot}
use Rattle.lifeguard_crew.specs.declared.slot.Slot.TheVariants.{Idle, Works, Ended}
use Rattle.lifeguard_crew.specs.Drivers.{IsReady, IsSeatAtEnd}
use Rattle.lifeguard_crew.specs.inner.Rounds.{lasting}

module _ {W : Type 0} where
  -- the slot of hart h
  abbrev pub slot_at : List (Slot W) → ℕ → Slot W
  slot_at row h = slice_index_or row h Idle

  -- at the start
  abbrev pub manned : W → Slot W
  manned w = Works w 1

  -- no worker is left in the slot
  abbrev pub IsAtRest : Slot W → Type 0
  IsAtRest Idle = Unit {0}
  IsAtRest (Works w n) = ⊥
  IsAtRest (Ended r s) = Unit {0}

  abbrev pub AreAtRest : List (Slot W) → Type 0
  AreAtRest row = (h : ℕ) → IsAtRest (slot_at row h)

  -- the slot is not idle
  abbrev pub IsManned : Slot W → Type 0
  IsManned Idle = ⊥
  IsManned (Works w n) = Unit {0}
  IsManned (Ended r s) = Unit {0}

  abbrev pub HasFoundAll : Slot W → Type 0
  HasFoundAll Idle = ⊥
  HasFoundAll (Works w n) = ⊥
  HasFoundAll (Ended r s) = Unit {0}

  -- theirs, or own where theirs is idle
  abbrev pub joined : Slot W → Slot W → Slot W
  joined own Idle = own
  joined own (Works w n) = Works w n
  joined own (Ended r s) = Ended r s

  -- what was in the slot is in one of two, and the other is idle
  abbrev pub IsSplit : Slot W → Slot W → Slot W → Type 0
  IsSplit old own theirs = ((own ≡ old) × (theirs ≡ Idle)) ⊎ ((own ≡ Idle) × (theirs ≡ old))

-- where May says what a slot must have for a turn, and Fit v that it has what was v at the start
module _ {W : Type 0} (May : Slot W → Type 0) (Fit : WorkerView → Slot W → Type 0) where
  -- the slot has what it had, or what came of it
  abbrev pub IsKept : Slot W → Slot W → Type 0
  IsKept old new = (May old → May new) × ((v : WorkerView) → Fit v old → Fit v new) × (IsManned old → IsManned new)

  abbrev pub AreKept : List (Slot W) → List (Slot W) → Type 0
  AreKept old new = (h : ℕ) → IsKept (slot_at old h) (slot_at new h)

module _ {W : Type 0} (view : W → WorkerView) where
  -- the worker in the slot has taken its whole stream
  abbrev pub HasEndedIn : Slot W → Type 0
  HasEndedIn Idle = Unit {0}
  HasEndedIn (Works w n) = HasEnded (view w)
  HasEndedIn (Ended r s) = Unit {0}

  -- in the place of a worker is what it found, and its seat
  abbrev pub IsEndOf : Slot W → Slot W → Type 0
  IsEndOf (Works w n) (Ended r s) = IsResult (view w) r × (seat_view s ≡ (view w).seat) × IsOfTable (view w).table s
  IsEndOf (Works w n) new = ⊥
  IsEndOf old new = new ≡ old

module _ {P W : Type 0} (planned : P → Planned) (view : W → WorkerView) (m : Monitor P) where
  -- a worker in the slot may be turned
  abbrev pub MayTurn : Slot W → Type 0
  MayTurn Idle = Unit {0}
  MayTurn (Works w n) = IsReady planned m (view w)
  MayTurn (Ended r s) = Unit {0}

  abbrev pub AllMayTurn : List (Slot W) → Type 0
  AllMayTurn row = (h : ℕ) → MayTurn (slot_at row h)

  -- if it has anything, the slot has the worker that was v at the start, or what it found
  abbrev pub Fits : WorkerView → Slot W → Type 0
  Fits v Idle = Unit {0}
  Fits v (Works w n) = lasting (view w) ≡ lasting v
  Fits v (Ended r s) = IsResult v r × IsSeatAtEnd planned m v.seat.hart s

  -- the slot has the worker that it had, or what it found
  abbrev pub KeepsSlot : Slot W → Slot W → Type 0
  KeepsSlot old new = IsKept MayTurn Fits old new

  abbrev pub KeepsRow : List (Slot W) → List (Slot W) → Type 0
  KeepsRow old new = AreKept MayTurn Fits old new
