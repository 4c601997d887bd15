-- The greater of two numbers that may be missing.
use Rattle.std.specs.Prelude.{ℕ, max, Option, Some, None}

abbrev pub later : Option ℕ → Option ℕ → Option ℕ
later None b = b
later (Some x) None = Some x
later (Some x) (Some y) = Some (max x y)
