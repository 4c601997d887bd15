use Rattle.std.specs.Prelude.{ℕ, ◌/◌, ◌%◌, Bool, false, Option, None, List, slice_index, slice_index_or, is_some}
use Rattle.std.specs.Option.{option_map, option_map_or}
use Rattle.guest_mem.specs.Image.{PageImage}
use Rattle.pl_base.specs.declared.layout.TheConstants.{PAGE_BYTES}

-- the page of a number, where it is mapped
abbrev pub page_at : List (Option PageImage) → ℕ → Option PageImage
page_at memory number = slice_index_or memory number None

-- the byte at each address, where its page is mapped
unfoldable pub bytes : List (Option PageImage) → ℕ → Option ℕ
bytes memory address =
    option_map (λ page. slice_index page.bytes (address % PAGE_BYTES)) (page_at memory (address / PAGE_BYTES))

-- whether each page is mapped
unfoldable pub mapped : List (Option PageImage) → ℕ → Bool
mapped memory number = is_some (page_at memory number)

-- whether each page is mapped as text
unfoldable pub texts : List (Option PageImage) → ℕ → Bool
texts memory number = option_map_or (λ page. page.text) (page_at memory number) false
