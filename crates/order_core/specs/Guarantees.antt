-- What holds of states.
use Rattle.std.specs.Prelude.{◌≡◌, ◌≢◌, ◌⊎◌, ℕ, ◌<◌, ◌≤◌, true, List, length}
use Rattle.pl_base.specs.declared.layout.TheConstants.{LANES}
use Rattle.order_core.specs.declared.course.TheConstants.{FIRST_WORD}
use Rattle.order_core.specs.declared.course.Course.{Course}
use Rattle.order_core.specs.declared.course.Operation.{Operation}
use Rattle.order_core.specs.declared.steps.CoreStep.{CoreStep}
use Rattle.order_core.specs.Lanes.{lane, covers, HasValueOf}
use Rattle.order_core.specs.Course.{lane_before, last_lane}
use Rattle.order_core.specs.Core.{Core, IsOpen, IsNextWrite}
use Rattle.order_core.specs.Runs.{Makes, MovesAlong, LeavesRead, StaysOpen, most_moves}

module _ (c : Course) where
  -- each read that is open finds its value
  abbrev pub ReadsFindValues : Core → Type 0
  ReadsFindValues k = (h p : ℕ) (a : Operation) → IsOpen c k h p a → HasValueOf a.what (k.word a.what.word)

  -- each next write finds in its lanes what the sequential run has there before it
  abbrev pub WritesFindLanes : Core → Type 0
  WritesFindLanes k = (h p : ℕ) (a : Operation) → IsNextWrite c k h p a → (j : ℕ) → j < LANES
      → covers a.what.lanes j ≡ true → lane j (k.word a.what.word) ≡ lane_before c p a.what.word j

  -- each read that is open stays open, with the same in its lanes, after each allowed step that is another hart's, or
  -- that leaves the read
  abbrev pub ReadsStayOpen : Core → Type 0
  ReadsStayOpen k = (h p : ℕ) (a : Operation) → IsOpen c k h p a
      → (s : CoreStep) (k' : Core) → Makes c k s.hart s.act k' → (s.hart ≢ h) ⊎ LeavesRead c h a s.act
      → StaysOpen c h p a k k'

  -- the words of the table are those at the end of the sequential run
  abbrev pub HasLastWords : Core → Type 0
  HasLastWords k = (w j : ℕ) → FIRST_WORD ≤ w → w < length c.opening → j < LANES → lane j (k.word w) ≡ last_lane c w j

  -- some hart may make a step that changes the state
  abbrev pub HasMove : Core → Type 0
  HasMove k = (s : CoreStep) × (k' : Core) × Makes c k s.hart s.act k' × (k' ≢ k)

  -- no more steps that change the state follow each other than there are writes, and for each hart records of the
  -- others, and records
  abbrev pub HasFewMoves : Core → Type 0
  HasFewMoves k = (more : List CoreStep) (k' : Core) → MovesAlong c k more k' → length more ≤ most_moves c
