-- Two plans of one log.
use Rattle.std.specs.Prelude.{◌≡◌, ℕ, ◌≤◌}
use Rattle.order_core.specs.Course.{Planned, course_of, length_of}

-- the second plan says what the first one says: its log, its opening words, and for each record of the log its
-- operations
pub record Agrees (plan other : Planned) : Type 0 where
  pub log : other.log ≡ plan.log
  pub opening : other.opening ≡ plan.opening
  pub operations : (h m : ℕ) → 1 ≤ m → m ≤ length_of (course_of plan) h → other.operations h m ≡ plan.operations h m
