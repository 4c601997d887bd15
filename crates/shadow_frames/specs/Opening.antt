-- The words at the start of a run.
use Rattle.std.specs.Prelude.{ℕ, List, fold, slice_index}
use Rattle.pl_event.specs.declared.log.PageKind.{PageKind}
use Rattle.pl_event.specs.declared.log.PageKind.TheVariants.{Data, Heap, Stack}
use Rattle.pl_event.specs.declared.log.PageRun.{PageRun}
use Rattle.order_core.specs.Shapes.{after_shapes}
use Rattle.shadow_frames.specs.Words.{all_nibbles}
use Rattle.shadow_frames.specs.Frames.{frame_shapes, map_page, pages_from}

-- the pages of a run are mapped, each to the lowest free frame, with the nibble of their kind
abbrev pub map_run : (PageKind → ℕ) → (ℕ → ℕ) → PageRun → (ℕ → ℕ)
map_run states w run = after_shapes w (pages_from (map_page (all_nibbles (states run.kind))) w run.first run.count)

-- from words that are all 0 the pages of each run are mapped
unfoldable pub opening_words : (PageKind → ℕ) → List PageRun → (ℕ → ℕ)
opening_words states pages = fold (map_run states) (λ word. 0) pages

-- the nibble of each kind of page, from a list of three
abbrev pub state_in : List ℕ → PageKind → ℕ
state_in states Data = slice_index states 0
state_in states Heap = slice_index states 1
state_in states Stack = slice_index states 2

-- the words after a page got a frame
unfoldable pub after_page : (ℕ → ℕ) → ℕ → ℕ → ℕ → (ℕ → ℕ)
after_page w page frame filling = after_shapes w (frame_shapes frame page filling)
