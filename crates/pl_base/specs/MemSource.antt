-- What a source over bytes in memory gives.
use Rattle.std.specs.Prelude.{ℕ, min, List, length, drop}
use Rattle.pl_base.specs.FaultPlan.{Plan, after_call, after_fault}

-- the bytes that are left, how many of them a read gives at most, and which reads fail
pub record Input : Type 0 where
  pub left : List ℕ
  pub piece : ℕ
  pub plan : Plan

-- how many bytes a read gives that has this room and does not fail
abbrev pub given : Input → ℕ → ℕ
given input room = min (min (length input.left) input.piece) room

-- after a read of n bytes
abbrev pub after_read : Input → ℕ → Input
after_read input n = record input { left = drop n input.left; plan = after_call input.plan }

-- after a read that failed
abbrev pub after_failed_read : Input → Input
after_failed_read input = record input { plan = after_fault input.plan }
