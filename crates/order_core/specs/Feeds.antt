-- What holds of each state of the core beside its feeder.
use Rattle.std.specs.Prelude.{◌≡◌, ◌≢◌, ℕ, ◌+◌, ◌≤◌, length, sum, All}
use Rattle.pl_base.specs.declared.layout.TheConstants.{CHUNK_RECORDS, RING_CHUNKS}
use Rattle.pl_event.specs.Records.{records_before}
use Rattle.order_core.specs.declared.course.Course.{Course}
use Rattle.order_core.specs.declared.fed_step.FedStep.{FedStep}
use Rattle.order_core.specs.declared.fed_step.FedStep.TheVariants as step
use Rattle.order_core.specs.Core.{IsConsistent}
use Rattle.order_core.specs.FedCore.{Feed, FedCore, FedMakes, IsFedPassed}

-- a chunk in a ring has 1 to 64 records
abbrev pub IsChunkSize : ℕ → Type 0
IsChunkSize n = (1 ≤ n) × (n ≤ CHUNK_RECORDS)

module _ (c : Course) where
  -- what hart h took, what is in its ring and its partial chunk add up to its records among the first n lines; each
  -- chunk and the ring are within their limits
  pub record IsFeedOf (n h : ℕ) (x : Feed) : Type 0 where
    pub records : x.taken + sum x.ring + x.partial ≡ records_before h c.log.lines n
    pub partial : x.partial ≤ CHUNK_RECORDS
    pub chunks : All IsChunkSize x.ring
    pub room : length x.ring ≤ RING_CHUNKS

  -- the core is consistent, the chunks of each hart hold its records of the lines that were produced, and no hart has
  -- advertised a record that it has not taken
  pub record IsFedConsistent (f : FedCore) : Type 0 where
    pub core : IsConsistent c f.core
    pub produced : f.produced ≤ length c.log.lines
    pub feeds : (h : ℕ) → IsFeedOf f.produced h (f.feed h)
    pub advertised : (h : ℕ) → f.core.progress h ≤ (f.feed h).taken

  -- the number of records that hart h has taken and passed
  pub record IsFedCursor (f : FedCore) (h n : ℕ) : Type 0 where
    pub passed : IsFedPassed c f h n
    pub most : (m : ℕ) → IsFedPassed c f h m → m ≤ n

  -- a worker or the feeder may make a step that changes the state
  abbrev pub HasFedMove : FedCore → Type 0
  HasFedMove f = (s : FedStep) × (f' : FedCore) × FedMakes c f s f' × (f' ≢ f)

-- a step that hands out records, other than one of the core
abbrev pub IsHandingOut : FedStep → Type 0
IsHandingOut (step.Core s) = ⊥
IsHandingOut _ = Unit {0}
