-- Points, each a hart and the number of a record of it, and the paths between them.
use Rattle.std.specs.Prelude.{◌≡◌, ℕ, ◌+◌, ◌<◌, ◌≤◌, ◌⊎◌}

-- from a point to the next of its hart, or by an edge of G between harts
abbrev pub Edge : (ℕ → ℕ → ℕ → ℕ → Type 0) → ℕ → ℕ → ℕ → ℕ → Type 0
Edge G u n h m = ((u ≡ h) × (n + 1 ≡ m)) ⊎ G u n h m

-- a chain of one or more edges
pub data Path (G : ℕ → ℕ → ℕ → ℕ → Type 0) (u n : ℕ) : ℕ → ℕ → Type 0 where
  one : {h m : ℕ} → Edge G u n h m → Path G u n h m
  more : {v k h m : ℕ} → Path G u n v k → Edge G v k h m → Path G u n h m

-- the same point, or a path
abbrev pub Reach : (ℕ → ℕ → ℕ → ℕ → Type 0) → ℕ → ℕ → ℕ → ℕ → Type 0
Reach G u n h m = ((u ≡ h) × (n ≡ m)) ⊎ Path G u n h m

-- a clock of record m of hart h: for each hart the number of its last record that reaches h:m, itself included, or 0
pub record IsClock (G : ℕ → ℕ → ℕ → ℕ → Type 0) (h m : ℕ) (clock : ℕ → ℕ) : Type 0 where
  pub told : (u n : ℕ) → 1 ≤ n → n ≤ clock u → Reach G u n h m
  pub all : (u n : ℕ) → Reach G u n h m → n ≤ clock u

-- G without its edge from u:n to h:m
abbrev pub Without : (ℕ → ℕ → ℕ → ℕ → Type 0) → ℕ → ℕ → ℕ → ℕ → ℕ → ℕ → ℕ → ℕ → Type 0
Without G u n h m v k w l = G v k w l × ((v ≡ u) × (k ≡ n) × (w ≡ h) × (l ≡ m) → ⊥)

-- u:n reaches h:m by a path that does not use the edge between them
abbrev pub IsImplied : (ℕ → ℕ → ℕ → ℕ → Type 0) → ℕ → ℕ → ℕ → ℕ → Type 0
IsImplied G u n h m = Path (Without G u n h m) u n h m

-- each edge leads to a later place
abbrev pub IsForward : (ℕ → ℕ → ℕ → ℕ → Type 0) → (ℕ → ℕ → ℕ) → Type 0
IsForward G place = (u n h m : ℕ) → Edge G u n h m → place u n < place h m
