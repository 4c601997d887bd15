-- A hart that makes its operations in turn.
use Rattle.std.specs.Prelude.{◌≡◌, ℕ, ◌^◌, ◌<◌, ◌≤◌, None, slice_get}
use Rattle.order_core.specs.declared.course.Course.{Course}
use Rattle.order_core.specs.declared.course.Op.{Op}
use Rattle.order_core.specs.Core.{Core, IsMet}
use Rattle.order_core.specs.Counts.{writes_before}
use Rattle.order_core.specs.Course.{Planned, IsListed, course_of, length_of}

-- hart h has come to operation i of its record m: its writes before it are performed and no more, the needs of the
-- record are met, and the record is above its progress word
pub record HasComeTo (c : Course) (k : Core) (h m i : ℕ) : Type 0 where
  pub writes : k.written h ≡ writes_before c h m i
  pub met : IsMet c (k.seen h) h m
  pub above : k.progress h < m

-- hart h has come to this operation of its record
abbrev pub HasTurn : Planned → Core → ℕ → ℕ → ℕ → Op → Type 0
HasTurn plan k h m i o = IsListed plan h m i o × HasComeTo (course_of plan) k h m i

-- hart h has come to the end of its record m, which has i operations
pub record HasComeToEnd (plan : Planned) (k : Core) (h m i : ℕ) : Type 0 where
  pub number : m ≤ length_of (course_of plan) h
  pub small : i < 2 ^ 32
  pub no_more : slice_get (plan.operations h m) i ≡ None
  pub at : HasComeTo (course_of plan) k h m i
