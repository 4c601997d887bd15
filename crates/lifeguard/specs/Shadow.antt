-- What a monitor keeps, as a state, and what it stands for.
use Rattle.std.specs.Prelude.{◌≡◌, ℕ, ◌+◌, ◌/◌, ◌%◌, ◌<◌, List, [], length, Option, Some, None, slice_index, slice_index_or, ◌==◌, nat_lt, if◌then◌else◌}
use Rattle.pl_base.specs.declared.layout.TheConstants.{PAGE_BYTES, MAX_HARTS}
use Rattle.pl_event.specs.declared.event.Event.{Event}
use Rattle.pl_event.specs.declared.log.PageRun.{PageRun}
use Rattle.pl_event.specs.Numbers.{events_on}
use Rattle.lifeguard.specs.declared.shadow.Shadow.{Shadow}
use Rattle.lifeguard.specs.declared.report.Report.{Report}
use Rattle.lifeguard.specs.declared.report.EventPlace.{EventPlace}
use Rattle.lifeguard.specs.Pages.{page_of}
use Rattle.lifeguard.specs.Rules.{Rules}
use Rattle.lifeguard.specs.State.{State, Bytes, Masks, first_state}
use Rattle.lifeguard.specs.Plain.{rule, plain_result}

-- a cell of 8 or more stands for a byte of no mapped page
abbrev pub cell_value : ℕ → Option ℕ
cell_value cell = if nat_lt cell 8 then Some cell else None

unfoldable pub bytes_of : List ℕ → Bytes
bytes_of cells a = cell_value (slice_index_or cells a 8)

-- the bytes of pages of 4,096 cells, or of none where no byte is mapped
unfoldable pub bytes_in : List (List ℕ) → Bytes
bytes_in pages a = bytes_of (page_of pages (a / PAGE_BYTES)) (a % PAGE_BYTES)

unfoldable pub masks_of : List (List ℕ) → Masks
masks_of masks h r = slice_index (slice_index_or masks h []) r

abbrev pub state_from : List (List ℕ) → List (List ℕ) → List Report → State
state_from pages masks reports = record { bytes = bytes_in pages; masks = masks_of masks; reports = reports }

abbrev pub state_of : Shadow → State
state_of shadow = state_from shadow.pages.items shadow.masks shadow.reports.items

-- how many events were applied
abbrev pub place_of : Shadow → ℕ
place_of shadow = shadow.place

-- where the next event of a hart is
abbrev pub next_place : Shadow → ℕ → EventPlace
next_place shadow hart = record { place = shadow.place + 1; hart = hart; number = slice_index shadow.counts hart + 1 }

-- the shadow state is the plain result of these events
pub record Represents (rules : Rules) (pages : List PageRun) (events : List Event) (shadow : Shadow) : Type 0 where
  pub state : state_of shadow ≡ plain_result rules pages events
  pub place : shadow.place ≡ length events
  pub counts : (h : ℕ) → h < MAX_HARTS → slice_index shadow.counts h ≡ events_on h events

-- no event was applied yet
pub record Begins (rules : Rules) (pages : List PageRun) (shadow : Shadow) : Type 0 where
  pub state : state_of shadow ≡ first_state rules pages
  pub place : shadow.place ≡ 0
  pub counts : (h : ℕ) → slice_index shadow.counts h ≡ 0

-- one event was applied
pub record IsStep (rules : Rules) (event : Event) (old new : Shadow) : Type 0 where
  pub state : state_of new ≡ rule rules (next_place old event.hart) event.kind (state_of old)
  pub place : new.place ≡ old.place + 1
  pub counts : (h : ℕ) → h < MAX_HARTS →
      slice_index new.counts h ≡ slice_index old.counts h + (if event.hart == h then 1 else 0)

-- nothing that a monitor shows has changed
pub record IsUnchanged (old new : Shadow) : Type 0 where
  pub state : state_of new ≡ state_of old
  pub place : new.place ≡ old.place
  pub counts : new.counts ≡ old.counts
