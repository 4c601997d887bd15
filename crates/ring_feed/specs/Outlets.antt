-- The rings of a run at the feeder: what was offered of each hart's stream, and what was not offered yet.
use Rattle.std.specs.Prelude.{◌≡◌, ◌++◌, ◌<◌, ◌≤◌, ◌^◌, ◌⊎◌, ℕ, Bool, true, false, [], List, length, map}
use mathlib.Core.Option.{some}
use lib.ListN.{get_elem?}
use Rattle.crossbeam_queue.specs.Fifo.{Held}
use Rattle.pl_base.specs.declared.layout.TheConstants.{CHUNK_RECORDS, MAX_HARTS, RING_CHUNKS}
use Rattle.pl_event.specs.declared.fed.Fed.{Fed}
use Rattle.pl_event.specs.declared.log.Line.{Line}
use Rattle.pl_event.specs.declared.log.Log.{Log}
use Rattle.pl_event.specs.Numbers.{hart_of}
use Rattle.stream_ring.specs.declared.ends.Ring.{Ring}
use Rattle.stream_ring.specs.declared.ends.SendPass.{SendPass}
use Rattle.stream_ring.specs.declared.ends.TakePass.{TakePass}
use Rattle.stream_ring.specs.Flow.{SomeGot, stream_of}
use Rattle.stream_ring.specs.Passes.{IsSendOf, IsTakeOf, offered, taken}
use Rattle.ring_feed.specs.declared.outlet.Outlet.{Outlet}
use Rattle.ring_feed.specs.Streams.{records_on}

-- what a feeder asks of the log of a run
pub record CanBeFed (log : Log) : Type 0 where
  pub few : length log.lines < 2 ^ 32
  pub harts : log.harts ≤ MAX_HARTS
  pub within : (i : ℕ) (line : Line) → get_elem? log.lines i ≡ some line → hart_of line.what < log.harts

module _ {N : Type 0} where
  -- so many rings, ring k of hart k
  pub record AreRings (harts : ℕ) (rings : List (Ring N)) : Type 0 where
    pub size : length rings ≡ harts
    pub hart : (k : ℕ) (ring : Ring N) → get_elem? rings k ≡ some ring → ring.hart ≡ k

  -- by number the right to offer to each ring, to which nothing was offered
  pub record AreSends (rings : List (Ring N)) (sends : List (SendPass N)) : Type 0 where
    pub size : length sends ≡ length rings
    pub of : (k : ℕ) (ring : Ring N) (send : SendPass N) → get_elem? rings k ≡ some ring → get_elem? sends k ≡ some send
        → IsSendOf ring send × (offered send ≡ [])

  -- by number the right to take from each ring, from which nothing was taken
  pub record AreTakes (rings : List (Ring N)) (takes : List (TakePass N)) : Type 0 where
    pub size : length takes ≡ length rings
    pub of : (k : ℕ) (ring : Ring N) (take : TakePass N) → get_elem? rings k ≡ some ring → get_elem? takes k ≡ some take
        → IsTakeOf ring take × (taken take ≡ [])

  -- the outlet of hart k: what it has offered, its part, and what of these records is of the hart are the hart's stream
  pub record IsOutlet (log : Log) (rest : List Fed) (k : ℕ) (o : Outlet N) : Type 0 where
    pub of : IsSendOf o.ring.now o.pass
    pub hart : o.ring.now.hart ≡ k
    pub stream : (offered o.pass ++ o.part.items) ++ records_on k rest ≡ stream_of log k
    pub part : length o.part.items ≤ CHUNK_RECORDS
    pub count : o.count ≡ length (offered o.pass)

  -- what the one outlet says of the run, the other one says too
  abbrev pub Keeps : Log → Outlet N → Outlet N → Type 0
  Keeps log old new = (rest : List Fed) (k : ℕ) → IsOutlet log rest k old → IsOutlet log rest k new

  -- nothing is left in its part, or its ring had 16 chunks when it was tried
  abbrev pub IsTried : Outlet N → Type 0
  IsTried o = (o.part.items ≡ []) ⊎ Held RING_CHUNKS (SomeGot (offered o.pass))

  abbrev pub ring_of : Outlet N → Ring N
  ring_of o = o.ring.now

  -- their rings, by number
  abbrev pub rings_of : List (Outlet N) → List (Ring N)
  rings_of os = map ring_of os

  -- an outlet for each hart, by number, where these records of the run are still to come
  pub record AreOutlets (log : Log) (rest : List Fed) (os : List (Outlet N)) : Type 0 where
    pub few : length log.lines < 2 ^ 32
    pub within : (i : ℕ) (fed : Fed) → get_elem? rest i ≡ some fed → hart_of fed.line.what < log.harts
    pub size : length os ≡ log.harts
    pub each : (k : ℕ) (o : Outlet N) → get_elem? os k ≡ some o → IsOutlet log rest k o

  -- each part has room for a record
  abbrev pub HaveRoom : List (Outlet N) → Type 0
  HaveRoom os = (k : ℕ) (o : Outlet N) → get_elem? os k ≡ some o → length o.part.items < CHUNK_RECORDS

  -- nothing is left in any part
  abbrev pub AreEmpty : List (Outlet N) → Type 0
  AreEmpty os = (k : ℕ) (o : Outlet N) → get_elem? os k ≡ some o → o.part.items ≡ []

  -- each part was tried, and of one of them something is left
  pub record AreBehind (os : List (Outlet N)) : Type 0 where
    pub tried : (k : ℕ) (o : Outlet N) → get_elem? os k ≡ some o → IsTried o
    pub left : (k : ℕ) × (o : Outlet N) × (get_elem? os k ≡ some o) × (1 ≤ length o.part.items)

  -- each stream was offered whole
  abbrev pub AreWhole : Log → List (Outlet N) → Type 0
  AreWhole log os = (k : ℕ) (o : Outlet N) → get_elem? os k ≡ some o → offered o.pass ≡ stream_of log k

  -- the first n parts were tried: is nothing left in any of them?
  pub record AreFirstTried (n : ℕ) (os : List (Outlet N)) (none : Bool) : Type 0 where
    pub tried : (k : ℕ) (o : Outlet N) → k < n → get_elem? os k ≡ some o → IsTried o
    pub empty : none ≡ true → (k : ℕ) (o : Outlet N) → k < n → get_elem? os k ≡ some o → o.part.items ≡ []
    pub left : none ≡ false
        → (k : ℕ) × (o : Outlet N) × (k < n) × (get_elem? os k ≡ some o) × (1 ≤ length o.part.items)
