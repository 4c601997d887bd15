-- What a list of steps of the core and its feeder comes to.
use Rattle.std.specs.Prelude.{◌≡◌, ℕ, ◌<◌, ◌≤◌, List, length, take, Some, slice_get}
use Rattle.order_core.specs.declared.course.Course.{Course}
use Rattle.order_core.specs.declared.fed_state.FedState.{FedState}
use Rattle.order_core.specs.declared.fed_step.FedStep.{FedStep}
use Rattle.order_core.specs.declared.refused.CoreRefused.{CoreRefused}
use Rattle.order_core.specs.declared.refused.CoreRefused.TheVariants.{NotAble, NoMemory}
use Rattle.order_core.specs.Core.{IsFinished}
use Rattle.order_core.specs.FedStates.{fed_of}
use Rattle.order_core.specs.FedCore.{FedCore, IsFedAllowed, IsFedReached}
use Rattle.order_core.specs.Feeds.{IsFedConsistent, IsFedCursor, HasFedMove}
use Rattle.order_core.specs.Guarantees.{HasLastWords}
use Rattle.order_core.specs.States.{core_of, cursor_of, word_count}

module _ (c : Course) where
  -- the steps before step `at`, counted from 0, are allowed in turn, and this one is not
  pub record IsFirstFedRefused (steps : List FedStep) (at : ℕ) : Type 0 where
    pub step : FedStep
    pub there : slice_get steps at ≡ Some step
    pub before : FedCore
    pub reached : IsFedReached c (take at steps) before
    pub refused : IsFedAllowed c before step → ⊥

  -- what an error says of the steps
  abbrev pub IsFedRefusal : List FedStep → CoreRefused → Type 0
  IsFedRefusal steps (NotAble at) = IsFirstFedRefused steps at
  IsFedRefusal steps NoMemory = Unit {0}

  -- for each hart of the run the number of records that it has taken and passed, and nothing for a number of no hart
  pub record HasFedCursors (s : FedState) : Type 0 where
    pub harts : (h : ℕ) → h < c.log.harts → IsFedCursor c (fed_of s) h (cursor_of s.core h)
    pub others : (h : ℕ) → c.log.harts ≤ h → cursor_of s.core h ≡ 0

  -- the steps are allowed in turn, and this is the state after them, with what holds of each such state
  pub record IsFedRunTo (steps : List FedStep) (s : FedState) : Type 0 where
    pub reached : IsFedReached c steps (fed_of s)
    pub cursors : HasFedCursors s
    pub words : word_count s.core ≡ length c.opening
    pub consistent : IsFedConsistent c (fed_of s)
    pub last : IsFinished c (core_of s.core) → HasLastWords c (core_of s.core)
    pub moves : (IsFinished c (core_of s.core) → ⊥) → ∥ HasFedMove c (fed_of s) ∥₁
