-- The words of the table, and the bytes of memory that they represent.
use Rattle.std.specs.Prelude.{◌≡◌, ◌≢◌, ℕ, zero, suc, ◌+◌, ◌*◌, ◌-◌, ◌/◌, ◌%◌, ◌^◌, ◌<◌, ◌≤◌, Bool, true, false, ◌==◌, nat_lt, Option, Some, None}
use Rattle.pl_base.specs.Pages.{count_below}
use Rattle.pl_base.specs.declared.layout.TheConstants.{BLOCK_BYTES, MAX_MAPPED_PAGES, MEMORY_BYTES, PAGE_BYTES, PAGE_COUNT}
use Rattle.lifeguard.specs.State.{Bytes}
use Rattle.shadow_frames.specs.declared.words.TheConstants.{FRAME_MAP_START, DIRECTORY_START, SHADOW_START, FRAME_WORDS}

-- nibble 0 of a word is its lowest four bits, and nibble i + 1 is nibble i of the other bits
abbrev pub nibble_of : ℕ → ℕ → ℕ
nibble_of word zero = word % 16
nibble_of word (suc i) = nibble_of (word / 16) i

-- the word whose lowest n nibbles are all s
abbrev pub repeated : ℕ → ℕ → ℕ
repeated s zero = 0
repeated s (suc n) = s + 16 * repeated s n

-- the word whose sixteen nibbles are all s
unfoldable pub all_nibbles : ℕ → ℕ
all_nibbles s = repeated s 16

-- bit k of a word
abbrev pub bit : ℕ → ℕ → Bool
bit word k = (word / 2 ^ k % 2) == 1

-- the directory's word of a page: 0, or the number of the page's frame plus 1
abbrev pub directory_word : ℕ → ℕ
directory_word page = DIRECTORY_START + page

-- the word of the frame map that has a frame's bit
abbrev pub map_word : ℕ → ℕ
map_word frame = FRAME_MAP_START + frame / 64

-- the first word of a frame
abbrev pub frame_word : ℕ → ℕ
frame_word frame = SHADOW_START + FRAME_WORDS * frame

-- the frame is in use
abbrev pub is_used : (ℕ → ℕ) → ℕ → Bool
is_used w frame = bit (w (map_word frame)) (frame % 64)

-- the word with the nibble of an address, where the directory's word of its page is d
abbrev pub shadow_word : ℕ → ℕ → ℕ
shadow_word d addr = frame_word (d - 1) + addr % PAGE_BYTES / BLOCK_BYTES

abbrev pub byte_in : (ℕ → ℕ) → ℕ → ℕ → Option ℕ
byte_in w addr zero = None
byte_in w addr (suc d) = Some (nibble_of (w (shadow_word (suc d) addr)) (addr % BLOCK_BYTES))

-- the nibble of an address in the frame of its page, or none where the page has no frame
abbrev pub byte_of : (ℕ → ℕ) → Bytes
byte_of w addr = byte_in w addr (w (directory_word (addr / PAGE_BYTES)))

-- the words represent these bytes: no frame serves two pages, and the frame map marks exactly the frames of pages
pub record WordsRepresent (w : ℕ → ℕ) (bytes : Bytes) : Type 0 where
  pub same : (addr : ℕ) → addr < MEMORY_BYTES → bytes addr ≡ byte_of w addr
  pub low : (p : ℕ) → p < PAGE_COUNT → w (directory_word p) ≤ MAX_MAPPED_PAGES
  pub apart : (p q : ℕ) → p < PAGE_COUNT → q < PAGE_COUNT → w (directory_word p) ≢ 0
      → w (directory_word p) ≡ w (directory_word q) → p ≡ q
  pub used : (f : ℕ) → f < MAX_MAPPED_PAGES → is_used w f ≡ true
      → (p : ℕ) × (p < PAGE_COUNT) × (w (directory_word p) ≡ f + 1)
  pub marked : (p f : ℕ) → p < PAGE_COUNT → w (directory_word p) ≡ f + 1 → is_used w f ≡ true

-- all sixteen nibbles of a word are this one
abbrev pub IsFilledWith : ℕ → ℕ → Type 0
IsFilledWith word s = (i : ℕ) → i < 16 → nibble_of word i ≡ s

-- whether there is one
abbrev pub is_there : Option ℕ → Bool
is_there None = false
is_there (Some n) = true

-- whether the first byte of a page is one of a mapped page
abbrev pub has_page : Bytes → ℕ → Bool
has_page bytes page = is_there (bytes (page * PAGE_BYTES))

-- whether the directory has a frame for the page
abbrev pub is_mapped : (ℕ → ℕ) → ℕ → Bool
is_mapped w page = nat_lt 0 (w (directory_word page))

-- how many pages are mapped
unfoldable pub mapped_pages : (ℕ → ℕ) → ℕ
mapped_pages w = count_below (is_mapped w) PAGE_COUNT

-- the first k frames are in use, and no others
abbrev pub AreFirstFrames : (ℕ → ℕ) → ℕ → Type 0
AreFirstFrames w k = (f : ℕ) → f < MAX_MAPPED_PAGES → is_used w f ≡ nat_lt f k
