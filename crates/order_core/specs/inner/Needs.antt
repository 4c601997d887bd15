-- The needs of a record beside what its hart has seen.
use Rattle.std.specs.Prelude.{ℕ, ◌<◌, ◌≤◌, List, Option, Some, None, slice_index, slice_index_or}
use Rattle.pl_base.specs.declared.layout.TheConstants.{MAX_HARTS}

-- the need is not above what was seen
abbrev pub IsSeen : Option ℕ → ℕ → Type 0
IsSeen None seen = Unit {0}
IsSeen (Some n) seen = n ≤ seen

-- no need of the eight harts is above what was seen of that hart
abbrev pub AreSeen : List (Option ℕ) → List ℕ → Type 0
AreSeen needs seen = (u : ℕ) → u < MAX_HARTS → IsSeen (slice_index_or needs u None) (slice_index seen u)
