-- Which pages are mapped before each line of a log, and what an event may map and unmap.
use Rattle.std.specs.Prelude.{ℕ, ◌+◌, ◌≤◌, Bool, true, false, fold, take}
use Rattle.pl_base.specs.declared.layout.TheConstants.{MAX_MAPPED_PAGES, PAGE_COUNT}
use Rattle.pl_base.specs.Pages.{marked, EachPage, count_below}
use Rattle.pl_event.specs.declared.event.Kind.{Kind}
use Rattle.pl_event.specs.declared.event.Kind.TheVariants.{Mp, Um}
use Rattle.pl_event.specs.declared.log.Line.{Line}
use Rattle.pl_event.specs.declared.log.Log.{Log}
use Rattle.pl_event.specs.declared.log.Record.{Record}
use Rattle.pl_event.specs.declared.log.Record.TheVariants as entry
use Rattle.pl_event.specs.OpeningPages.{is_in_runs}

-- which pages are mapped after an event
abbrev pub mapped_by : (ℕ → Bool) → Kind → ℕ → Bool
mapped_by mapped (Mp first count) = marked mapped first count true
mapped_by mapped (Um first count) = marked mapped first count false
mapped_by mapped _ = mapped

-- which are mapped after a line
abbrev pub mapped_after : (ℕ → Bool) → Line → ℕ → Bool
mapped_after mapped line = after line.what
  where
    after : Record → ℕ → Bool
    after (entry.Event event) = mapped_by mapped event.kind
    after (entry.Notice hart point) = mapped

-- which are mapped before the line at position i
abbrev pub mapped_at : Log → ℕ → ℕ → Bool
mapped_at log i = fold mapped_after (is_in_runs log.pages) (take i log.lines)

-- pages to be mapped are not, and with them at most 512 are; pages to be unmapped are mapped
abbrev pub KeepsPages : (ℕ → Bool) → Kind → Type 0
KeepsPages mapped (Mp first count) =
    EachPage mapped first count false × (count_below mapped PAGE_COUNT + count ≤ MAX_MAPPED_PAGES)
KeepsPages mapped (Um first count) = EachPage mapped first count true
KeepsPages mapped _ = Unit {0}
