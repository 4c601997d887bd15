-- What is kept of the core and its feeder, and what a step does to it.
use Rattle.order_core.specs.declared.course.Course.{Course}
use Rattle.order_core.specs.declared.fed_step.FedStep.{FedStep}
use Rattle.order_core.specs.declared.feeding.Feeding.{Feeding}
use Rattle.order_core.specs.FedCore.{FedCore, FedMakes, IsFedAllowed}
use Rattle.order_core.specs.HartFeeds.{fed_in}
use Rattle.order_core.specs.inner.Kept.{Fits}
use Rattle.order_core.specs.inner.KeptFeeds.{AreKeptFeeds}

abbrev pub fed_now : Feeding → FedCore
fed_now s = fed_in s.core s.produced s.feeds

pub record FitsFed (c : Course) (s : Feeding) : Type 0 where
  pub core : Fits c s.core
  pub feeds : AreKeptFeeds s.feeds

-- the step may be made at s
abbrev pub MayMakeFed : Course → Feeding → FedStep → Type 0
MayMakeFed c s step = IsFedAllowed c (fed_now s) step

-- the step is made at s, and s' is the state after it
abbrev pub IsFedMade : Course → Feeding → FedStep → Feeding → Type 0
IsFedMade c s step s' = FedMakes c (fed_now s) step (fed_now s')
