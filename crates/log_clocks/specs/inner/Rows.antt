-- The rows of a table of last accesses.
use Rattle.std.specs.Prelude.{◌≡◌, ◌≢◌, ℕ, ◌<◌, max, Bool, true, false, List, length, replicate, slice_index, slice_index_or, if◌then◌else◌}
use Rattle.pl_base.specs.declared.layout.TheConstants.{MAX_HARTS}
use Rattle.log_clocks.specs.declared.lasts.Row.{Row}

abbrev pub zero_row : Row
zero_row = record { loads = replicate MAX_HARTS 0; stores = replicate MAX_HARTS 0 }

-- the last store of hart u, or its last load
abbrev pub in_row : Row → Bool → ℕ → ℕ
in_row row true u = slice_index row.stores u
in_row row false u = slice_index row.loads u

abbrev pub row_at : List ℕ → List Row → ℕ → Row
row_at index rows block = slice_index_or rows (slice_index index block) zero_row

-- the last access that a store conflicts with, or a load
abbrev pub newest : Row → Bool → ℕ → ℕ
newest row store u = if store then max (in_row row true u) (in_row row false u) else in_row row true u

-- each block has a row of its own, or the first row, to which nothing is written
pub record IsIndexed (index : List ℕ) (rows : List Row) : Type 0 where
  pub first : slice_index_or rows 0 zero_row ≡ zero_row
  pub within : (b : ℕ) → slice_index index b < length rows
  pub apart : (b c : ℕ) → b ≢ c → slice_index index b ≡ slice_index index c → slice_index index b ≡ 0
