-- Harts that wait for others.
use Rattle.std.specs.Prelude.{ℕ, ◌+◌, ◌<◌}
use Rattle.pl_event.specs.Needs.{IsNeed}
use Rattle.order_core.specs.declared.course.Course.{Course}
use Rattle.order_core.specs.Core.{Core, IsCursor}

module _ (c : Course) where
  -- hart h has advertised all that it has passed, and its next record needs more of hart u than it has seen
  pub record WaitsFor (k : Core) (h u need : ℕ) : Type 0 where
    pub told : IsCursor c (k.written h) (k.seen h) h (k.progress h)
    pub needs : IsNeed c.log.lines u need h (k.progress h + 1)
    pub unseen : k.seen h u < need
