-- What a list of steps comes to.
use Rattle.std.specs.Prelude.{◌≡◌, ℕ, ◌<◌, ◌≤◌, List, length, take, Some, slice_get}
use Rattle.order_core.specs.declared.course.Course.{Course}
use Rattle.order_core.specs.declared.course.Operation.{Operation}
use Rattle.order_core.specs.declared.steps.Act.TheVariants.{Perform}
use Rattle.order_core.specs.declared.steps.CoreStep.{CoreStep}
use Rattle.order_core.specs.declared.refused.CoreRefused.{CoreRefused}
use Rattle.order_core.specs.declared.refused.CoreRefused.TheVariants.{NotAble, NoMemory}
use Rattle.order_core.specs.declared.state.CoreState.{CoreState}
use Rattle.order_core.specs.Lanes.{HasValueOf}
use Rattle.order_core.specs.Core.{Core, IsCursor, IsOpen, IsConsistent, IsFinished}
use Rattle.order_core.specs.Runs.{IsReached, IsAllowed}
use Rattle.order_core.specs.States.{core_of, cursor_of, word_count}
use Rattle.order_core.specs.Guarantees.{ReadsStayOpen, HasLastWords, HasMove, HasFewMoves}

module _ (c : Course) where
  -- at each step that performs a read the word holds the value of the sequential run
  abbrev pub ReadsAreSequential : List CoreStep → Type 0
  ReadsAreSequential steps = (i : ℕ) (s : CoreStep) (k : Core) → slice_get steps i ≡ Some s
      → IsReached c (take i steps) k → (p : ℕ) (a : Operation) → s.act ≡ Perform a.number a.op → IsOpen c k s.hart p a
      → HasValueOf a.what (k.word a.what.word)

  -- the steps before step `at`, counted from 0, are allowed in turn, and this one is not
  pub record IsFirstRefused (steps : List CoreStep) (at : ℕ) : Type 0 where
    pub step : CoreStep
    pub there : slice_get steps at ≡ Some step
    pub before : Core
    pub reached : IsReached c (take at steps) before
    pub refused : IsAllowed c before step.hart step.act → ⊥

  -- what an error says of the steps
  abbrev pub IsRefusal : List CoreStep → CoreRefused → Type 0
  IsRefusal steps (NotAble at) = IsFirstRefused steps at
  IsRefusal steps NoMemory = Unit {0}

  -- for each hart of the run the number of its passed records, and nothing for a number of no hart
  pub record HasCursors (s : CoreState) : Type 0 where
    pub harts : (h : ℕ) → h < c.log.harts → IsCursor c ((core_of s).written h) ((core_of s).seen h) h (cursor_of s h)
    pub others : (h : ℕ) → c.log.harts ≤ h → cursor_of s h ≡ 0

  -- the steps are allowed in turn, and this is the state after them, with what holds of each such state
  pub record IsRunTo (steps : List CoreStep) (s : CoreState) : Type 0 where
    pub reached : IsReached c steps (core_of s)
    pub cursors : HasCursors s
    pub words : word_count s ≡ length c.opening
    pub consistent : IsConsistent c (core_of s)
    pub late : ReadsStayOpen c (core_of s)
    pub last : IsFinished c (core_of s) → HasLastWords c (core_of s)
    pub moves : (IsFinished c (core_of s) → ⊥) → ∥ HasMove c (core_of s) ∥₁
    pub bound : HasFewMoves c (core_of s)
