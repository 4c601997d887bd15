-- The words of a table of frames.
use Rattle.std.specs.Prelude.{◌≡◌, ℕ, ◌<◌, ◌≤◌, List, length, slice_index}
use Rattle.pl_base.specs.declared.layout.TheConstants.{MAX_MAPPED_PAGES, PAGE_COUNT}
use Rattle.shadow_frames.specs.declared.words.TheConstants.{DIRECTORY_START, SHADOW_START, TABLE_WORDS}
use Rattle.shadow_frames.specs.Words.{directory_word, nibble_of}

-- each of the sixteen nibbles of the word is below 8
abbrev pub HasNibbles : ℕ → Type 0
HasNibbles word = (i : ℕ) → i < 16 → nibble_of word i < 8

-- the words of a table: a page has no frame or one of 512, and the nibbles of shadow words are below 8
pub record IsTable (words : List ℕ) : Type 0 where
  pub size : length words ≡ TABLE_WORDS
  pub frames : (p : ℕ) → p < PAGE_COUNT → slice_index words (directory_word p) ≤ MAX_MAPPED_PAGES
  pub nibbles : (u : ℕ) → SHADOW_START ≤ u → HasNibbles (slice_index words u)

-- the word may hold this value
pub record MayHold (word value : ℕ) : Type 0 where
  pub inside : word < TABLE_WORDS
  pub frame : DIRECTORY_START ≤ word → word < SHADOW_START → value ≤ MAX_MAPPED_PAGES
  pub nibbles : SHADOW_START ≤ word → HasNibbles value
