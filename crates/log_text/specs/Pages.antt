-- Whether some page passes a test, and the table of pages.
use Rattle.std.specs.Prelude.{ℕ, zero, suc, ◌||◌, Bool, false, List, slice_index_or}

-- one of `count` pages from `first` on passes a test
unfoldable pub some_page : (ℕ → Bool) → ℕ → ℕ → Bool
some_page test first zero = false
some_page test first (suc count) = test first || some_page test (suc first) count

-- whether each page of a table is marked
abbrev pub holds_at : List Bool → ℕ → Bool
holds_at pages page = slice_index_or pages page false
