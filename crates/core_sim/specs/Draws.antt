-- The numbers by which harts and programs are drawn.
use Rattle.std.specs.Prelude.{ℕ, zero, suc, ◌+◌, ◌*◌, ◌%◌, ◌^◌}

-- the number after one
abbrev pub drawn : ℕ → ℕ
drawn x = (x * 1664525 + 1013904223) % 2 ^ 32

-- the number after so many draws from one on
abbrev pub drawn_after : ℕ → ℕ → ℕ
drawn_after x zero = x
drawn_after x (suc draws) = drawn (drawn_after x draws)
