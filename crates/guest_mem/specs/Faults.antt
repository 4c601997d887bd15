use Rattle.std.specs.Prelude.{◌≡◌, ℕ, ◌+◌, ◌/◌, ◌<◌, ◌≤◌, Bool, true, false, Option, List}
use Rattle.guest_mem.specs.declared.fault.MapFault.{MapFault}
use Rattle.guest_mem.specs.declared.fault.MapFault.TheVariants.{Range, Mapped, TooMany, NoMemory}
use Rattle.guest_mem.specs.declared.fault.MemFault.{MemFault}
use Rattle.guest_mem.specs.declared.fault.MemFault.TheVariants.{Unmapped, ReadOnly}
use Rattle.guest_mem.specs.Bytes.{AllMapped, IsFirstUnmapped}
use Rattle.guest_mem.specs.Image.{PageImage}
use Rattle.pl_base.specs.Pages.{count_below, EachPage}
use Rattle.guest_mem.specs.Memory.{bytes, mapped, texts}
use Rattle.pl_base.specs.declared.layout.TheConstants.{PAGE_BYTES, PAGE_COUNT, MAX_MAPPED_PAGES}

-- no page is past the last one
abbrev pub InRange : ℕ → ℕ → Type 0
InRange first count = first + count ≤ PAGE_COUNT

-- a test has that answer at one of `count` pages from `first` on
abbrev pub SomePage : (ℕ → Bool) → ℕ → ℕ → Bool → Type 0
SomePage test first count answer = (page : ℕ) × (first ≤ page) × (page < first + count) × (test page ≡ answer)

-- with `count` pages more, no more are mapped than may be
abbrev pub HasRoom : List (Option PageImage) → ℕ → Type 0
HasRoom memory count = count_below (mapped memory) PAGE_COUNT + count ≤ MAX_MAPPED_PAGES

-- with `count` pages more, more are mapped than may be
abbrev pub IsCrowded : List (Option PageImage) → ℕ → Type 0
IsCrowded memory count = MAX_MAPPED_PAGES < count_below (mapped memory) PAGE_COUNT + count

-- the pages can be mapped
pub record CanMap (memory : List (Option PageImage)) (first count : ℕ) : Type 0 where
  pub in_range : InRange first count
  pub free : EachPage (mapped memory) first count false
  pub room : HasRoom memory count

-- why pages are not mapped: each cause yields to those before it
abbrev pub IsMapFault : List (Option PageImage) → ℕ → ℕ → MapFault → Type 0
IsMapFault memory first count Range = PAGE_COUNT < first + count
IsMapFault memory first count Mapped = InRange first count × SomePage (mapped memory) first count true
IsMapFault memory first count TooMany =
    InRange first count × EachPage (mapped memory) first count false × IsCrowded memory count
IsMapFault memory first count NoMemory = CanMap memory first count

-- why bytes are not read
abbrev pub IsReadFault : List (Option PageImage) → ℕ → ℕ → MemFault → Type 0
IsReadFault memory at count (Unmapped byte) = IsFirstUnmapped (bytes memory) at count byte
IsReadFault memory at count ReadOnly = ⊥

-- one of `count` addresses from `at` on lies on a page of text
abbrev pub HasText : List (Option PageImage) → ℕ → ℕ → Type 0
HasText memory at count = (k : ℕ) × (at ≤ k) × (k < at + count) × (texts memory (k / PAGE_BYTES) ≡ true)

-- each byte is mapped, and none is text
pub record IsWritable (memory : List (Option PageImage)) (at count : ℕ) : Type 0 where
  pub all_mapped : AllMapped (bytes memory) at count
  pub no_text : (k : ℕ) → at ≤ k → k < at + count → texts memory (k / PAGE_BYTES) ≡ false

-- why bytes are not written
abbrev pub IsWriteFault : List (Option PageImage) → ℕ → ℕ → MemFault → Type 0
IsWriteFault memory at count (Unmapped byte) = IsFirstUnmapped (bytes memory) at count byte
IsWriteFault memory at count ReadOnly = AllMapped (bytes memory) at count × HasText memory at count
