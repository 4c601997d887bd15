-- A clock that was raised by the clocks of the records that are needed.
use Rattle.std.specs.Prelude.{◌≡◌, ℕ, ◌<◌, ◌≤◌, ◌⊎◌, List, Option, Some, None, slice_index_or}

-- `clock` joins `start` with the clocks in the table of what is needed of the harts below b
pub record IsJoin (needs : List (Option ℕ)) (b : ℕ) (table : ℕ → ℕ → ℕ → ℕ) (start clock : ℕ → ℕ) : Type 0 where
  pub before : (u : ℕ) → start u ≤ clock u
  pub sources : (w k : ℕ) → w < b → slice_index_or needs w None ≡ Some k → (u : ℕ) → table w k u ≤ clock u
  pub from : (u n : ℕ) → n ≤ clock u → (n ≤ start u) ⊎ ((w : ℕ) × (k : ℕ) × (w < b)
      × (slice_index_or needs w None ≡ Some k) × (n ≤ table w k u))

-- the clock has all that the needed records have which it knows, and so have the clocks of the needed records
pub record IsClosed (needs : List (Option ℕ)) (table : ℕ → ℕ → ℕ → ℕ) (start : ℕ → ℕ) : Type 0 where
  pub own : (w k : ℕ) → w < 8 → slice_index_or needs w None ≡ Some k → k ≤ start w → (u : ℕ) → table w k u ≤ start u
  pub needed : (v n w k : ℕ) → v < 8 → slice_index_or needs v None ≡ Some n → w < 8 →
      slice_index_or needs w None ≡ Some k → k ≤ table v n w → (u : ℕ) → table w k u ≤ table v n u
