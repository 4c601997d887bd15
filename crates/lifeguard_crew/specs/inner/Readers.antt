-- Workers that take their records from rings.
use Rattle.std.specs.Prelude.{◌≡◌, ◌<◌, ◌^◌, ℕ, List, length}
use mathlib.Core.Option.{some}
use lib.ListN.{get_elem?}
use Rattle.order_core.specs.Course.{Planned}
use Rattle.guard_table.specs.declared.seats.Monitor.{Monitor}
use Rattle.pl_event.specs.declared.log.Log.{Log}
use Rattle.stream_ring.specs.declared.ends.Ring.{Ring}
use Rattle.stream_ring.specs.Flow.{stream_of}
use Rattle.stream_ring.specs.Passes.{IsTakeOf, taken}
use Rattle.turn_worker.specs.Workers.{WorkerView}
use Rattle.turn_worker.specs.Workers as worker
use Rattle.lifeguard_crew.specs.declared.reader.Reader.{Reader}
use Rattle.lifeguard_crew.specs.declared.reader_threads.Lent.{Lent}
use Rattle.lifeguard_crew.specs.declared.slot.Slot.{Slot}
use Rattle.lifeguard_crew.specs.declared.slot.Slot.TheVariants.{Idle, Works, Ended}
use Rattle.lifeguard_crew.specs.inner.Online.{IsOfRun, IsSameWorker}
use Rattle.lifeguard_crew.specs.Drivers.{IsReady}
use Rattle.lifeguard_crew.specs.inner.Slots.{AreKept, IsKept, IsManned, slot_at}
use Rattle.lifeguard_crew.specs.inner.Rows.{IsReturn, Pass}

module _ {P N W : Type 0} (planned : P → Planned) (view : W → WorkerView) (m : Monitor P) (log : Log)
    (rings : List (Ring N)) where
  -- the worker was fed what was taken from the ring of its hart, in the run of this log
  pub record IsReader (r : Reader N W) : Type 0 where
    pub run : IsOfRun planned m (view r.worker)
    pub inside : (view r.worker).seat.hart < length rings
    pub of : (ring : Ring N) → get_elem? rings (view r.worker).seat.hart ≡ some ring
        → IsTakeOf ring r.pass × (ring.hart ≡ (view r.worker).seat.hart)
    pub stream : stream_of log (view r.worker).seat.hart ≡ worker.stream_of (view r.worker)
    pub few : length log.lines < 2 ^ 32
    pub fed : (view r.worker).fed ≡ taken r.pass
    pub count : r.count ≡ length (taken r.pass)

-- the worker is the one that it was
abbrev pub IsSameReader : {N W : Type 0} → (W → WorkerView) → Reader N W → Reader N W → Type 0
IsSameReader view r s = IsSameWorker (view r.worker) (view s.worker)

module _ {N W : Type 0} (view : W → WorkerView) where
  -- if it has anything, the slot has the worker that was v at the start
  abbrev pub Reads : WorkerView → Slot (Reader N W) → Type 0
  Reads v Idle = Unit {0}
  Reads v (Works r n) = IsSameWorker v (view r.worker)
  Reads v (Ended r s) = ⊥

  -- by number, the slot has what was the worker at the start
  abbrev pub AllRead : List W → List (Slot (Reader N W)) → Type 0
  AllRead ws row = (k : ℕ) (w : W) → get_elem? ws k ≡ some w → IsManned (slot_at row k) × Reads (view w) (slot_at row k)

module _ {P N W : Type 0} (planned : P → Planned) (view : W → WorkerView) (m : Monitor P) (log : Log)
    (rings : List (Ring N)) where
  abbrev pub MayRead : Slot (Reader N W) → Type 0
  MayRead Idle = Unit {0}
  MayRead (Works r n) = IsReader planned view m log rings r
  MayRead (Ended r s) = Unit {0}

  abbrev pub AllMayRead : List (Slot (Reader N W)) → Type 0
  AllMayRead row = (h : ℕ) → MayRead (slot_at row h)

  -- the slot has the reader that it had
  abbrev pub KeepsReader : Slot (Reader N W) → Slot (Reader N W) → Type 0
  KeepsReader old new = IsKept MayRead (Reads view) old new

  abbrev pub KeepsReaders : List (Slot (Reader N W)) → List (Slot (Reader N W)) → Type 0
  KeepsReaders old new = AreKept MayRead (Reads view) old new

  -- the readers that a thread gives back for those that it took
  abbrev pub AreBack : List (Slot (Reader N W)) → List (Slot (Reader N W)) → Type 0
  AreBack took gave = IsReturn MayRead (Reads view) took gave

  -- the readers that some rows have others have after them
  abbrev pub ReadersPass : List (List (Slot (Reader N W))) → List (List (Slot (Reader N W))) → Type 0
  ReadersPass olds news = Pass MayRead (Reads view) olds news

  -- the slot has a reader, of this hart
  abbrev pub IsReaderOf : ℕ → Slot (Reader N W) → Type 0
  IsReaderOf h Idle = ⊥
  IsReaderOf h (Works r n) = IsReader planned view m log rings r × ((view r.worker).seat.hart ≡ h)
  IsReaderOf h (Ended r s) = ⊥

  -- a reader for each hart, by number
  abbrev pub AreReaders : List (Slot (Reader N W)) → Type 0
  AreReaders row = (k : ℕ) (s : Slot (Reader N W)) → get_elem? row k ≡ some s → IsReaderOf k s

-- a thread took a row of n slots, and speaks of this monitor and these rings
pub record HasReaders {P N W : Type 0} (m : Monitor P) (all : List (Ring N)) (n : ℕ) (lent : Lent P N W) : Type 0 where
  pub monitor : lent.monitor.value ≡ m
  pub rings : lent.rings.value.items ≡ all
  pub size : length lent.row.value.items ≡ n

-- by number the workers of the slots, each of which was fed its whole stream
pub record AreDrained {P N W : Type 0} (planned : P → Planned) (view : W → WorkerView) (m : Monitor P)
    (row : List (Slot (Reader N W))) (ws : List W) : Type 0 where
  pub size : length ws ≡ length row
  pub each : (k : ℕ) (s : Slot (Reader N W)) (w : W) → get_elem? row k ≡ some s → get_elem? ws k ≡ some w
      → IsReady planned m (view w) × Reads view (view w) s
