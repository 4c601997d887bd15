-- The writes of a hart, counted by the names of its operations.
use Rattle.std.specs.Prelude.{ℕ, Bool, ◌&&◌, ◌||◌, nat_lt, ◌==◌}
use Rattle.std.specs.List.{count_by}
use Rattle.order_core.specs.declared.course.Course.{Course}
use Rattle.order_core.specs.declared.course.Operation.{Operation}
use Rattle.order_core.specs.Course.{is_write_of}

-- a write of hart h before its operation i of record n
abbrev pub is_before : ℕ → ℕ → ℕ → Operation → Bool
is_before h n i a = is_write_of h a && (nat_lt a.number n || (a.number == n && nat_lt a.op i))

-- how many writes hart h has before its operation i of record n
abbrev pub writes_before : Course → ℕ → ℕ → ℕ → ℕ
writes_before c h n i = count_by (is_before h n i) c.operations
