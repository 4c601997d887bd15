-- How pages get frames, and how their frames are freed, as operations on words.
use Rattle.std.specs.Prelude.{ℕ, zero, suc, ◌+◌, ◌-◌, ◌%◌, ◌^◌, Bool, true, false, nat_lt, Option, Some, None, List, [], ◌∷◌, ◌++◌, if◌then◌else◌}
use Rattle.pl_base.specs.declared.layout.TheConstants.{MAX_MAPPED_PAGES}
use Rattle.order_core.specs.Shapes.{Shape, after_shapes}
use Rattle.shadow_frames.specs.declared.words.TheConstants.{FRAME_MAP_START, FRAME_WORDS}
use Rattle.shadow_frames.specs.Words.{directory_word, map_word, frame_word, is_used}

-- a read of these lanes of a word, for a check or not
abbrev pub reads_lanes : Bool → ℕ → ℕ → Shape
reads_lanes check lanes word = record { word = word; lanes = lanes; write = false; check = check; change = λ v. v }

-- a write of what becomes of these lanes of a word
abbrev pub writes_lanes : ℕ → ℕ → (ℕ → ℕ) → Shape
writes_lanes lanes word change = record { word = word; lanes = lanes; write = true; check = false; change = change }

abbrev pub reads : ℕ → Shape
reads word = reads_lanes false 15 word

abbrev pub writes : ℕ → (ℕ → ℕ) → Shape
writes word change = writes_lanes 15 word change

-- so many words from the first one on are written with one value
abbrev pub fills : ℕ → ℕ → ℕ → List Shape
fills first value zero = []
fills first value (suc n) = writes first (λ _. value) ∷ fills (suc first) value n

-- the lowest free frame of n from f on, or the one after them
abbrev pub free_from : (ℕ → ℕ) → ℕ → ℕ → ℕ
free_from w f zero = f
free_from w f (suc n) = if is_used w f then free_from w (suc f) n else f

-- the lowest free frame, or 512 where there is none
unfoldable pub lowest_free : (ℕ → ℕ) → ℕ
lowest_free w = free_from w 0 MAX_MAPPED_PAGES

-- the number of a frame, or none where there is no such frame
abbrev pub frame_or_none : ℕ → Option ℕ
frame_or_none f = if nat_lt f MAX_MAPPED_PAGES then Some f else None

-- the frame map is read, and page p gets frame f, whose words are filled
abbrev pub frame_shapes : ℕ → ℕ → ℕ → List Shape
frame_shapes f p filling =
    let first = FRAME_MAP_START in
    reads first ∷ reads (first + 1) ∷ reads (first + 2) ∷ reads (first + 3)
    ∷ reads (first + 4) ∷ reads (first + 5) ∷ reads (first + 6) ∷ reads (first + 7)
    ∷ writes (map_word f) (λ v. v + 2 ^ (f % 64)) ∷ writes (directory_word p) (λ _. f + 1)
    ∷ fills (frame_word f) filling FRAME_WORDS

-- page p gets the lowest free frame
unfoldable pub map_page : ℕ → (ℕ → ℕ) → ℕ → List Shape
map_page filling w p = frame_shapes (lowest_free w) p filling

-- frame f of page p is freed
abbrev pub freed_shapes : ℕ → ℕ → List Shape
freed_shapes f p = reads (directory_word p) ∷ reads (map_word f) ∷ writes (map_word f) (λ v. v - 2 ^ (f % 64))
    ∷ writes (directory_word p) (λ _. 0) ∷ []

-- the frame of page p is freed
unfoldable pub unmap_page : (ℕ → ℕ) → ℕ → List Shape
unmap_page w p = freed_shapes (w (directory_word p) - 1) p

-- n pages or blocks from p on, each from the words that the ones before it leave
abbrev pub pages_from : ((ℕ → ℕ) → ℕ → List Shape) → (ℕ → ℕ) → ℕ → ℕ → List Shape
pages_from page w p zero = []
pages_from page w p (suc n) = page w p ++ pages_from page (after_shapes w (page w p)) (suc p) n
