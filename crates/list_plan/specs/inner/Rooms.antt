-- Events whose operations are on words of the table.
use Rattle.std.specs.Prelude.{ℕ, ◌+◌, ◌<◌, ◌≤◌}
use Rattle.pl_base.specs.declared.layout.TheConstants.{MAX_MAPPED_PAGES, MEMORY_BYTES, PAGE_COUNT}
use Rattle.pl_base.specs.Widths.{store_bytes}
use Rattle.pl_event.specs.declared.event.Kind.{Kind}
use Rattle.pl_event.specs.declared.event.Kind.TheVariants.{Ld, St, Op, Mv, Im, Br, Jr, Al, Fr, Bf, Mp, Um, Rd, Wr, Ex, Ft}
use Rattle.pl_event.specs.declared.log.PageKind.TheVariants.{Data}
use Rattle.pl_event.specs.declared.log.Record.{Record}
use Rattle.pl_event.specs.declared.log.Record.TheVariants as entry
use Rattle.pl_event.specs.Valid.{IsValidEvent}
use Rattle.lifeguard.specs.Rules.{Rules}
use Rattle.lifeguard.specs.State.{Masks}
use Rattle.order_core.specs.Shapes.{after_shapes}
use Rattle.shadow_frames.specs.Words.{all_nibbles}
use Rattle.shadow_frames.specs.Frames.{lowest_free, map_page, pages_from}

-- before each of the pages is mapped a frame is free
abbrev pub HasFrames : ℕ → (ℕ → ℕ) → ℕ → ℕ → Type 0
HasFrames filling w page count = (i : ℕ) → i < count
    → lowest_free (after_shapes w (pages_from (map_page filling) w page i)) < MAX_MAPPED_PAGES

-- the addresses and pages are of memory, and there are frames for pages that are mapped
abbrev pub HasRoom : Rules → (ℕ → ℕ) → Kind → Type 0
HasRoom rules w (Ld width rd rb addr) = addr < MEMORY_BYTES
HasRoom rules w (St width rv rb addr) = addr + store_bytes width ≤ MEMORY_BYTES
HasRoom rules w (Op rd r1 r2) = Unit {0}
HasRoom rules w (Mv rd rs) = Unit {0}
HasRoom rules w (Im rd) = Unit {0}
HasRoom rules w (Br r1 r2) = Unit {0}
HasRoom rules w (Jr rd rs) = Unit {0}
HasRoom rules w (Al addr len) = addr + len ≤ MEMORY_BYTES
HasRoom rules w (Fr addr len) = addr + len ≤ MEMORY_BYTES
HasRoom rules w (Bf addr) = Unit {0}
HasRoom rules w (Mp page count) = (page + count ≤ PAGE_COUNT)
    × HasFrames (all_nibbles (rules.page_state Data)) w page count
HasRoom rules w (Um page count) = page + count ≤ PAGE_COUNT
HasRoom rules w (Rd addr len) = addr + len ≤ MEMORY_BYTES
HasRoom rules w (Wr addr len) = addr + len ≤ MEMORY_BYTES
HasRoom rules w Ex = Unit {0}
HasRoom rules w (Ft cause addr) = Unit {0}

-- the mask of the register that is stored; 0 where none is
abbrev pub stored_mask : Masks → ℕ → Kind → ℕ
stored_mask masks hart (St width rv rb addr) = masks hart rv
stored_mask masks hart _ = 0

-- an event is valid, and has room; a notice needs none
abbrev pub RecordHasRoom : Rules → (ℕ → ℕ) → ℕ → Record → Type 0
RecordHasRoom rules w harts (entry.Event event) = IsValidEvent event harts × HasRoom rules w event.kind
RecordHasRoom rules w harts (entry.Notice hart point) = Unit {0}
