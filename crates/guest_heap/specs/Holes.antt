use Rattle.std.specs.Prelude.{ℕ, ◌+◌, ◌-◌, ◌<◌, ◌≤◌, ◌⊎◌, List, [], ◌∷◌, ⊤, slice_index_or}
use Rattle.guest_heap.specs.declared.holes.Hole.{Hole}

-- no hole is empty, they go upwards from there, and no two of them touch
abbrev pub IsApart : ℕ → List Hole → Type 0
IsApart from [] = ⊤
IsApart from (hole ∷ holes) = (from ≤ hole.start) × (hole.start < hole.end) × IsApart (hole.end + 1) holes

-- a unit lies in one of the holes
abbrev pub In : List Hole → ℕ → Type 0
In [] unit = ⊥
In (hole ∷ holes) unit = ((hole.start ≤ unit) × (unit < hole.end)) ⊎ In holes unit

-- each of so many units from there on does
abbrev pub AllIn : List Hole → ℕ → ℕ → Type 0
AllIn holes start count = (unit : ℕ) → start ≤ unit → unit < start + count → In holes unit

-- where the hole at a place of the list starts and ends, and how many units it has
abbrev pub start_of : List Hole → ℕ → ℕ
start_of holes k = (slice_index_or holes k (record { start = 0; end = 0 })).start

abbrev pub end_of : List Hole → ℕ → ℕ
end_of holes k = (slice_index_or holes k (record { start = 0; end = 0 })).end

abbrev pub room : List Hole → ℕ → ℕ
room holes k = end_of holes k - start_of holes k

-- the holes after so many units were taken out of them
pub record Loses (old new : List Hole) (start count : ℕ) : Type 0 where
  pub apart : IsApart 0 new
  pub only : (unit : ℕ) → In new unit → In old unit
  pub gone : (unit : ℕ) → In new unit → start ≤ unit → unit < start + count → ⊥
  pub kept : (unit : ℕ) → In old unit → (unit < start) ⊎ (start + count ≤ unit) → In new unit

-- the holes after the units from `start` up to `end` were added
pub record Gains (old new : List Hole) (start end : ℕ) : Type 0 where
  pub apart : IsApart 0 new
  pub only : (unit : ℕ) → In new unit → In old unit ⊎ ((start ≤ unit) × (unit < end))
  pub kept : (unit : ℕ) → In old unit → In new unit
  pub added : (unit : ℕ) → start ≤ unit → unit < end → In new unit
