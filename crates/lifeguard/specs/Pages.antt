-- Pages of cells.
use Rattle.std.specs.Prelude.{◌≡◌, ℕ, ◌+◌, ◌<◌, ◌≤◌, List, [], length, slice_index_or}
use Rattle.pl_base.specs.declared.layout.TheConstants.{PAGE_BYTES}
use Rattle.pl_event.specs.declared.event.Kind.{Kind}
use Rattle.pl_event.specs.declared.event.Kind.TheVariants.{Mp}

-- the cells of a page; none past the end of memory
abbrev pub page_of : List (List ℕ) → ℕ → List ℕ
page_of pages number = slice_index_or pages number []

-- a page with cells has one for each byte
abbrev pub IsPage : List ℕ → Type 0
IsPage cells = 0 < length cells → length cells ≡ PAGE_BYTES

-- each of these pages has its cells
abbrev pub HasRoom : ℕ → ℕ → List (List ℕ) → Type 0
HasRoom first count pages = (number : ℕ) → first ≤ number → number < first + count →
    length (page_of pages number) ≡ PAGE_BYTES

-- each page that an event maps has its cells
abbrev pub HasRoomFor : Kind → List (List ℕ) → Type 0
HasRoomFor (Mp page count) pages = HasRoom page count pages
HasRoomFor _ pages = Unit {0}
