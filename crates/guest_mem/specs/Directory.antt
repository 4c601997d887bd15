use Rattle.std.specs.Prelude.{◌≡◌, ℕ, ◌≤◌, Bool, Option, List, length, slice_index}
use Rattle.guest_mem.specs.Image.{PageImage}
use Rattle.pl_base.specs.Pages.{count_below}
use Rattle.guest_mem.specs.Memory.{mapped}
use Rattle.pl_base.specs.declared.layout.TheConstants.{PAGE_COUNT, MAX_MAPPED_PAGES}

-- a directory has an entry for each page, and as many pages are mapped as are counted
pub record IsDirectory (pages : List (Option PageImage)) (count : ℕ) : Type 0 where
  pub all_pages : length pages ≡ PAGE_COUNT
  pub counted : count ≡ count_below (mapped pages) PAGE_COUNT
  pub few : count ≤ MAX_MAPPED_PAGES

-- a page of zeros
pub record IsZeroPage (text : Bool) (page : PageImage) : Type 0 where
  pub text_is : page.text ≡ text
  pub zeros : (k : ℕ) → slice_index page.bytes k ≡ 0
