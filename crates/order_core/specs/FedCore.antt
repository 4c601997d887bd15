-- The core beside a feeder, which hands out the records of a log to its harts, in chunks and through rings.
use Rattle.std.specs.Prelude.{◌≡◌, ◌⊎◌, ℕ, ◌+◌, ◌<◌, ◌≤◌, List, [], ◌∷◌, ◌++◌, length, drop, map, Option, Some, None, slice_get, slice_index}
use Rattle.pl_base.specs.declared.layout.TheConstants.{CHUNK_RECORDS, RING_CHUNKS}
use Rattle.pl_event.specs.declared.log.Line.{Line}
use Rattle.pl_event.specs.Numbers.{hart_of}
use Rattle.order_core.specs.declared.course.Course.{Course}
use Rattle.order_core.specs.declared.fed_step.FedStep.{FedStep}
use Rattle.order_core.specs.declared.fed_step.FedStep.TheVariants as step
use Rattle.order_core.specs.declared.steps.Act.{Act}
use Rattle.order_core.specs.declared.steps.Act.TheVariants.{See, Advertise, Perform}
use Rattle.order_core.specs.Core.{Core, opening_core, IsPassed, put}
use Rattle.order_core.specs.Runs.{IsAllowed, Makes}

-- what was handed out to a hart: how many records its partial chunk has, how many each chunk in its ring has, oldest
-- first, and how many it took
pub record Feed : Type 0 where
  pub partial : ℕ
  pub ring : List ℕ
  pub taken : ℕ

-- a state of the core, how many lines the feeder has produced, and what was handed out to each hart
pub record FedCore : Type 0 where
  pub core : Core
  pub produced : ℕ
  pub feed : ℕ → Feed

abbrev pub empty_feed : Feed
empty_feed = record { partial = 0; ring = []; taken = 0 }

-- nothing is done or produced
abbrev pub opening_fed : Course → FedCore
opening_fed c = record { core = opening_core c; produced = 0; feed = λ h. empty_feed }

-- the hart of the line at position i, counted from 0, where there is such a line
abbrev pub hart_at : List Line → ℕ → Option ℕ
hart_at lines i = slice_get (map (λ line. hart_of line.what) lines) i

-- one more record in the partial chunk
abbrev pub with_record : Feed → Feed
with_record x = record x { partial = x.partial + 1 }

-- the partial chunk goes to the back of the ring
abbrev pub after_offer : Feed → Feed
after_offer x = record x { partial = 0; ring = x.ring ++ (x.partial ∷ []) }

-- the oldest chunk is taken
abbrev pub after_take : Feed → Feed
after_take x = record x { ring = drop 1 x.ring; taken = x.taken + slice_index x.ring 0 }

abbrev pub with_feed : FedCore → ℕ → Feed → FedCore
with_feed f h x = record f { feed = put f.feed h x }

-- the partial chunk has all the records that a chunk may have
abbrev pub IsFullChunk : Feed → Type 0
IsFullChunk x = x.partial ≡ CHUNK_RECORDS

-- the ring has no room for a chunk
abbrev pub IsFullRing : Feed → Type 0
IsFullRing x = length x.ring ≡ RING_CHUNKS

-- the step is for none of the records of its hart above m
abbrev pub IsUpTo : ℕ → Act → Type 0
IsUpTo m (See of) = Unit {0}
IsUpTo m (Advertise upto) = upto ≤ m
IsUpTo m (Perform number op) = number ≤ m

module _ (c : Course) where
  -- hart h has passed its records up to m, which it has taken
  abbrev pub IsFedPassed : FedCore → ℕ → ℕ → Type 0
  IsFedPassed f h m = IsPassed c (f.core.written h) (f.core.seen h) h m × (m ≤ (f.feed h).taken)

  -- no line is left to produce
  abbrev pub IsAllProduced : FedCore → Type 0
  IsAllProduced f = hart_at c.log.lines f.produced ≡ None

  -- the next line can neither be produced nor can room for it be made by an offer: its hart's chunk and ring are full
  abbrev pub IsHeldUp : FedCore → Type 0
  IsHeldUp f = (g : ℕ) × (hart_at c.log.lines f.produced ≡ Some g) × IsFullChunk (f.feed g) × IsFullRing (f.feed g)

  -- the next line is of hart h, whose partial chunk has room for it
  abbrev pub MayProduce : FedCore → ℕ → Type 0
  MayProduce f h = (hart_at c.log.lines f.produced ≡ Some h) × ((f.feed h).partial < CHUNK_RECORDS)

  -- the partial chunk of hart h may go to its ring: it is not empty, the ring has room, and the chunk is full, or no
  -- line is left, or the next line is held up
  pub record MayOffer (f : FedCore) (h : ℕ) : Type 0 where
    pub hart : h < c.log.harts
    pub some : 1 ≤ (f.feed h).partial
    pub room : length (f.feed h).ring < RING_CHUNKS
    pub due : IsFullChunk (f.feed h) ⊎ (IsAllProduced f ⊎ IsHeldUp f)

  -- hart h may take the oldest chunk of its ring: it has passed all the records that it took
  pub record MayTake (f : FedCore) (h : ℕ) : Type 0 where
    pub hart : h < c.log.harts
    pub some : 1 ≤ length (f.feed h).ring
    pub passed : IsPassed c (f.core.written h) (f.core.seen h) h (f.feed h).taken

  -- what may be done at f: a step of the core, for records that its hart has taken, or one of the three above
  abbrev pub IsFedAllowed : FedCore → FedStep → Type 0
  IsFedAllowed f (step.Core s) = IsUpTo (f.feed s.hart).taken s.act × IsAllowed c f.core s.hart s.act
  IsFedAllowed f (step.Take h) = MayTake f h
  IsFedAllowed f step.Produce = (h : ℕ) × MayProduce f h
  IsFedAllowed f (step.Offer h) = MayOffer f h

  -- the step may be done at f, and f' is the state after it
  abbrev pub FedMakes : FedCore → FedStep → FedCore → Type 0
  FedMakes f (step.Core s) f' = IsUpTo (f.feed s.hart).taken s.act
      × ((k : Core) × Makes c f.core s.hart s.act k × (f' ≡ record f { core = k }))
  FedMakes f (step.Take h) f' = MayTake f h × (f' ≡ with_feed f h (after_take (f.feed h)))
  FedMakes f step.Produce f' = (h : ℕ) × MayProduce f h
      × (f' ≡ record f { produced = f.produced + 1; feed = put f.feed h (with_record (f.feed h)) })
  FedMakes f (step.Offer h) f' = MayOffer f h × (f' ≡ with_feed f h (after_offer (f.feed h)))

  -- each step is allowed where it is made
  abbrev pub FedRuns : FedCore → List FedStep → FedCore → Type 0
  FedRuns f [] f' = f ≡ f'
  FedRuns f (s ∷ rest) f' = (m : FedCore) × FedMakes f s m × FedRuns m rest f'

  -- the state after these steps from the opening state
  abbrev pub IsFedReached : List FedStep → FedCore → Type 0
  IsFedReached steps f = FedRuns (opening_fed c) steps f
