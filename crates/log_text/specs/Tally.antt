-- What is kept of the lines so far.
use Rattle.std.specs.Prelude.{◌≡◌, ℕ, ◌+◌, ◌<◌, ◌≤◌, Bool, true, false, ◌&&◌, ◌==◌, List, Some, None, count_by, slice_index_or, slice_set, if◌then◌else◌}
use Rattle.std.specs.List.{list_any}
use Rattle.pl_base.specs.declared.layout.TheConstants.{MAX_RECORDS, PAGE_COUNT}
use Rattle.pl_event.specs.declared.event.Kind.{Kind}
use Rattle.pl_event.specs.declared.event.Kind.TheVariants.{Mp, Um}
use Rattle.pl_event.specs.declared.log.Point.{Point}
use Rattle.pl_event.specs.declared.log.Record.TheVariants as entry
use Rattle.log_text.specs.declared.tally.Tally.{Tally}
use Rattle.log_text.specs.Pages.{holds_at}
use Rattle.log_grammar.specs.Spelling.{Entry, page, row}
use Rattle.log_text.specs.WellFormed.{is_row, is_end_of, is_notice_of, page_end, mapped_in, records_in}
use Rattle.pl_event.specs.Mapping.{mapped_by}
use Rattle.pl_event.specs.Runs.{ends_hart}

-- the line is the hart's notice of the point
abbrev pub tells : ℕ → Point → Entry → Bool
tells hart point (page run) = false
tells hart point (row (entry.Event event) points) = false
tells hart point (row (entry.Notice own of) points) =
    (own == hart) && ((of.hart == point.hart) && (of.number == point.number))

abbrev pub is_told : List Entry → ℕ → Point → Bool
is_told before hart point = list_any (tells hart point) before

-- pages of memory
abbrev pub MapsInside : Kind → Type 0
MapsInside (Mp first count) = first + count ≤ PAGE_COUNT
MapsInside (Um first count) = first + count ≤ PAGE_COUNT
MapsInside _ = Unit {0}

-- the tally stands for these lines of so many harts
pub record Keeps (tally : Tally) (before : List Entry) : Type 0 where
  pub some : 1 ≤ tally.harts
  pub few : tally.harts ≤ 8
  pub end : tally.next_page ≡ page_end before
  pub mapped : holds_at tally.pages.pages.items ≡ mapped_in before
  pub rows : tally.records ≡ count_by is_row before
  pub short : count_by is_row before ≤ MAX_RECORDS
  pub numbers : (hart : ℕ) → hart < 8 → slice_index_or tally.numbers hart 0 ≡ records_in hart before
  pub ended : (hart : ℕ) → hart < 8 → slice_index_or tally.ended hart false ≡ list_any (is_end_of hart) before
  -- each hart's last record is kept where it is a notice, and each notice whose event has not come is a last record
  pub there : (hart : ℕ) (point : Point) → hart < 8 → slice_index_or tally.notices hart None ≡ Some point →
      is_told before hart point ≡ true
  pub last : (hart : ℕ) (point : Point) → is_told before hart point ≡ true →
      records_in point.hart before < point.number → slice_index_or tally.notices hart None ≡ Some point
  pub low : (hart : ℕ) (point : Point) → is_told before hart point ≡ true → (hart < 8) × (point.hart < 8)
  pub named : (hart number : ℕ) → hart < 8 → slice_index_or tally.named hart 0 < number →
      list_any (is_notice_of hart number) before ≡ false

-- one more event: a hart that ends is marked, and so are pages; all else stays
pub record AddsKind (old : Tally) (hart : ℕ) (kind : Kind) (new : Tally) : Type 0 where
  pub ended : new.ended ≡ (if ends_hart kind then slice_set old.ended hart true else old.ended)
  pub mapped : MapsInside kind → holds_at new.pages.pages.items ≡ mapped_by (holds_at old.pages.pages.items) kind
  pub rest : new ≡ record old { ended = new.ended; pages = new.pages }
