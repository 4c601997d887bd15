-- Which lines may follow which, and the first line that may not.
use Rattle.std.specs.Prelude.{◌≡◌, ℕ, ◌+◌, ◌%◌, ◌<◌, ◌≤◌, ◌⊎◌, Bool, true, false, not, ◌&&◌, ◌||◌, ◌==◌, nat_lt, nat_le, List, [], ◌∷◌, ◌++◌, length, fold, count_by, filter, find, All, Option, Some, None, Result, Ok, Err}
use Rattle.std.specs.List.{list_any}
use Rattle.pl_base.specs.declared.layout.TheConstants.{MAX_MAPPED_PAGES, MAX_RECORDS, MEMORY_BYTES, PAGE_COUNT}
use Rattle.pl_base.specs.Widths.{load_bytes, store_bytes}
use Rattle.pl_event.specs.declared.event.Kind.{Kind}
use Rattle.pl_event.specs.declared.event.Kind.TheVariants.{Ld, St, Al, Fr, Mp, Um, Rd, Wr}
use Rattle.pl_event.specs.declared.log.Log.{Log}
use Rattle.pl_event.specs.declared.log.PageRun.{PageRun}
use Rattle.pl_event.specs.declared.log.Point.{Point}
use Rattle.pl_event.specs.declared.log.Record.{Record}
use Rattle.pl_event.specs.declared.log.Record.TheVariants as entry
use Rattle.pl_event.specs.Alerts.{is_alert_kind}
use Rattle.pl_event.specs.Mapping.{mapped_by}
use Rattle.pl_event.specs.Numbers.{hart_of}
use Rattle.pl_event.specs.Runs.{ends_hart, IsBlockSize}
use Rattle.log_text.specs.declared.cause.LogCause.{LogCause}
use Rattle.log_text.specs.declared.cause.LogCause.TheVariants.{Header, Form, Page, Records, Hart, Ended, Open, Arc, Notice, Access, Range, Map}
use Rattle.log_text.specs.declared.cause.LogFault.{LogFault}
use Rattle.log_text.specs.declared.cause.LogRefused.{LogRefused}
use Rattle.log_text.specs.declared.cause.LogRefused.TheVariants as refused
use Rattle.log_grammar.specs.Spelling.{Entry, page, row, header_text, line_text, entry_text, entries_text, entries_of, log_spelling}
use Rattle.log_grammar.specs.Form.{IsInForm, most_read, most_written}
use Rattle.log_text.specs.Pages.{some_page}
use Rattle.pl_base.specs.Pages.{marked, count_below}
use Rattle.log_grammar.specs.Arcs.{is_rising}

-- Records

abbrev pub is_row : Entry → Bool
is_row (page run) = false
is_row (row what points) = true

abbrev pub is_row_of : ℕ → Entry → Bool
is_row_of hart (page run) = false
is_row_of hart (row what points) = hart_of what == hart

-- how many records of a hart the lines have
abbrev pub records_in : ℕ → List Entry → ℕ
records_in hart entries = count_by (is_row_of hart) entries

abbrev pub on_event : (Kind → Bool) → Record → Bool
on_event test (entry.Event event) = test event.kind
on_event test (entry.Notice hart point) = false

abbrev pub is_notice : Record → Bool
is_notice (entry.Event event) = false
is_notice (entry.Notice hart point) = true

-- Pages

-- the end of the last run of pages
abbrev pub end_after : ℕ → Entry → ℕ
end_after end (page run) = run.first + run.count
end_after end (row what points) = end

abbrev pub page_end : List Entry → ℕ
page_end entries = fold end_after 0 entries

-- which pages are mapped after one more line
abbrev pub mapped_after : (ℕ → Bool) → Entry → ℕ → Bool
mapped_after mapped (page run) = marked mapped run.first run.count true
mapped_after mapped (row (entry.Event event) points) = mapped_by mapped event.kind
mapped_after mapped (row (entry.Notice hart point) points) = mapped

-- which pages are mapped after some lines, and how many
abbrev pub mapped_in : List Entry → ℕ → Bool
mapped_in entries = fold mapped_after (λ page. false) entries

abbrev pub pages_mapped : List Entry → ℕ
pages_mapped entries = count_below (mapped_in entries) PAGE_COUNT

-- Ends and notices

-- the line ends the hart
abbrev pub is_end_of : ℕ → Entry → Bool
is_end_of hart (page run) = false
is_end_of hart (row what points) = on_event ends_hart what && (hart_of what == hart)

-- a notice whose event has not come among the lines
abbrev pub is_pending : List Entry → Entry → Bool
is_pending entries (page run) = false
is_pending entries (row (entry.Event event) points) = false
is_pending entries (row (entry.Notice hart point) points) = nat_lt (records_in point.hart entries) point.number

-- the hart has a notice whose event has not come
abbrev pub is_waiting : List Entry → ℕ → Bool
is_waiting entries hart = list_any (λ e. is_pending entries e && is_row_of hart e) entries

-- some hart has one
abbrev pub has_pending : List Entry → Bool
has_pending entries = list_any (is_pending entries) entries

-- a notice of that record of the hart
abbrev pub is_notice_of : ℕ → ℕ → Entry → Bool
is_notice_of hart number (page run) = false
is_notice_of hart number (row (entry.Event event) points) = false
is_notice_of hart number (row (entry.Notice own point) points) = (point.hart == hart) && (point.number == number)

-- the next record of the hart is one that a notice names
abbrev pub is_awaited : List Entry → ℕ → Bool
is_awaited entries hart = list_any (is_notice_of hart (records_in hart entries + 1)) entries

-- The rules, each on a line and the lines before it

-- a page line follows a record, starts below the end of the run before it, passes the last page, or maps more than 512
abbrev pub breaks_page : List Entry → PageRun → Bool
breaks_page before run =
    list_any is_row before || nat_lt run.first (page_end before) || nat_lt PAGE_COUNT (run.first + run.count) || nat_lt
    MAX_MAPPED_PAGES (pages_mapped before + run.count)

-- 2,000,000 records come before
abbrev pub breaks_records : List Entry → Bool
breaks_records before = nat_le MAX_RECORDS (count_by is_row before)

-- the record is of a hart that the run does not have, or names one
abbrev pub names_past : ℕ → Record → Bool
names_past harts (entry.Event event) = nat_le harts event.hart
names_past harts (entry.Notice hart point) = nat_le harts hart || nat_le harts point.hart

abbrev pub breaks_hart : ℕ → Record → List Point → Bool
breaks_hart harts what points = names_past harts what || list_any (λ point. nat_le harts point.hart) points

-- an event of a hart that has ended
abbrev pub breaks_ended : List Entry → Record → Bool
breaks_ended before what = not (is_notice what) && list_any (is_end_of (hart_of what)) before

-- an arc of the own hart, harts that do not rise strictly, or an arc from a record that has not come
abbrev pub breaks_arc : List Entry → Record → List Point → Bool
breaks_arc before what points =
    list_any (λ point. point.hart == hart_of what) points || not (is_rising points) || list_any
    (λ point. nat_lt (records_in point.hart before) point.number) points

-- a notice of the own hart or of a record that has come
abbrev pub is_bad_notice : List Entry → Record → Bool
is_bad_notice before (entry.Event event) = false
is_bad_notice before (entry.Notice hart point) =
    (point.hart == hart) || nat_le point.number (records_in point.hart before)

-- such a notice, or a record that a notice names and that is no alert event
abbrev pub breaks_notice : List Entry → Record → Bool
breaks_notice before what =
    is_bad_notice before what || (is_awaited before (hart_of what) && not (on_event is_alert_kind what))

-- a load's or a store's address is no multiple of its width
abbrev pub is_misaligned : Kind → Bool
is_misaligned (Ld width rd rb addr) = not ((addr % load_bytes width) == 0)
is_misaligned (St width rv rb addr) = not ((addr % store_bytes width) == 0)
is_misaligned _ = false

-- a range of bytes passes the end of memory
abbrev pub passes_end : Kind → Bool
passes_end (Al addr len) = nat_lt MEMORY_BYTES (addr + len)
passes_end (Fr addr len) = nat_lt MEMORY_BYTES (addr + len)
passes_end (Rd addr len) = nat_lt MEMORY_BYTES (addr + len)
passes_end (Wr addr len) = nat_lt MEMORY_BYTES (addr + len)
passes_end _ = false

-- pages past the last one, mapped pages that are mapped again, more than 512 of them, or
-- unmapped ones that are unmapped
abbrev pub is_bad_map : List Entry → Kind → Bool
is_bad_map before (Mp first count) =
    nat_lt PAGE_COUNT (first + count) || some_page (mapped_in before) first count
    || nat_lt MAX_MAPPED_PAGES (pages_mapped before + count)
is_bad_map before (Um first count) =
    nat_lt PAGE_COUNT (first + count) || some_page (λ page. not (mapped_in before page)) first count
is_bad_map before _ = false

-- whether a line breaks the rule of a cause after the lines before it
abbrev pub breaks : ℕ → List Entry → Entry → LogCause → Bool
breaks harts before (page run) Page = breaks_page before run
breaks harts before (page run) _ = false
breaks harts before (row what points) Records = breaks_records before
breaks harts before (row what points) Hart = breaks_hart harts what points
breaks harts before (row what points) Ended = breaks_ended before what
breaks harts before (row what points) Open = is_waiting before (hart_of what)
breaks harts before (row what points) Arc = breaks_arc before what points
breaks harts before (row what points) Notice = breaks_notice before what
breaks harts before (row what points) Access = on_event is_misaligned what
breaks harts before (row what points) Range = on_event passes_end what
breaks harts before (row what points) Map = on_event (is_bad_map before) what
breaks harts before (row what points) _ = false

-- the rules in the order in which they are tried
abbrev pub rules_in_order : List LogCause
rules_in_order = Page ∷ Records ∷ Hart ∷ Ended ∷ Open ∷ Arc ∷ Notice ∷ Access ∷ Range ∷ Map ∷ []

-- the last of them, which look at the fields of an event
abbrev pub rules_of_fields : List LogCause
rules_of_fields = Access ∷ Range ∷ Map ∷ []

-- those of a log of any length: all but the one that counts records
abbrev pub is_of_any_length : LogCause → Bool
is_of_any_length Records = false
is_of_any_length _ = true

abbrev pub rules_of_any_length : List LogCause
rules_of_any_length = filter is_of_any_length rules_in_order

-- the first rule that a line breaks
abbrev pub broken : ℕ → List Entry → Entry → Option LogCause
broken harts before e = find (breaks harts before e) rules_in_order

-- Logs

-- a well-formed line may follow these
pub record Continues (rules : List LogCause) (most harts : ℕ) (before : List Entry) (e : Entry) : Type 0 where
  pub in_form : IsInForm most e
  pub breaks_none : find (breaks harts before e) rules ≡ None

-- each line continues those before it
abbrev pub IsLawful : List LogCause → ℕ → ℕ → List Entry → Type 0
IsLawful rules most harts entries = (before after : List Entry) (e : Entry) → entries ≡ before ++ e ∷ after →
    Continues rules most harts before e

-- 1 to 8 harts and a size of blocks, each line continues those before it, and the event of each notice comes
pub record KeepsRules (rules : List LogCause) (most : ℕ) (log : Log) : Type 0 where
  pub some : 1 ≤ log.harts
  pub few : log.harts ≤ 8
  pub block : IsBlockSize log.block
  pub eight : All (λ line. length line.arcs ≡ 8) log.lines
  pub lawful : IsLawful rules most log.harts (entries_of log)
  pub closed : has_pending (entries_of log) ≡ false

abbrev pub IsWellFormed : Log → Type 0
IsWellFormed log = KeepsRules rules_in_order most_read log

-- of any length, with record numbers of 32 bits
abbrev pub IsWritable : Log → Type 0
IsWritable log = KeepsRules rules_of_any_length most_written log

-- the bytes are the text of the log, which is well-formed
pub record IsLogText (bytes : List ℕ) (log : Log) : Type 0 where
  pub formed : IsWellFormed log
  pub spelled : bytes ≡ log_spelling log

-- Faults

-- no header begins the bytes
pub record IsHeaderFault (bytes : List ℕ) (fault : LogFault) : Type 0 where
  pub line : fault.line ≡ 1
  pub named : fault.cause ≡ Header
  pub none : (harts block : ℕ) (rest : List ℕ) → 1 ≤ harts → harts ≤ 8 → IsBlockSize block →
      bytes ≡ line_text (header_text harts block) ++ rest → ⊥

-- why reading stops before the rest: no well-formed line begins it, the line that begins it breaks a rule, or it is the
-- end and the event of a notice has not come
pub data Stops (harts : ℕ) (before : List Entry) (rest : List ℕ) : LogCause → Type 0 where
  no_line : 0 < length rest →
      ((e : Entry) (after : List ℕ) → IsInForm most_read e → rest ≡ line_text (entry_text e) ++ after → ⊥) →
      Stops harts before rest Form
  bad_line : {cause : LogCause} (e : Entry) (after : List ℕ) → IsInForm most_read e →
      rest ≡ line_text (entry_text e) ++ after → broken harts before e ≡ Some cause → Stops harts before rest cause
  bad_end : rest ≡ [] → has_pending before ≡ true → Stops harts before rest Open

-- the line after a header and lawful lines
pub record IsLineFault (bytes : List ℕ) (fault : LogFault) : Type 0 where
  pub harts : ℕ
  pub block : ℕ
  pub before : List Entry
  pub rest : List ℕ
  pub some : 1 ≤ harts
  pub few : harts ≤ 8
  pub size : IsBlockSize block
  pub spelled : bytes ≡ line_text (header_text harts block) ++ entries_text before ++ rest
  pub lawful : IsLawful rules_in_order most_read harts before
  pub line : fault.line ≡ length before + 2
  pub stops : Stops harts before rest fault.cause

-- the first line that breaks a rule, and the first rule that it breaks
abbrev pub IsFirstFault : List ℕ → LogFault → Type 0
IsFirstFault bytes fault = IsHeaderFault bytes fault ⊎ IsLineFault bytes fault

-- what holds of the fault of a refusal
abbrev pub IfFault : {T : Type 0} → Result T LogRefused → (LogFault → Type 0) → Type 0
IfFault (Ok x) P = Unit {0}
IfFault (Err refused.NoMemory) P = Unit {0}
IfFault (Err (refused.Fault fault)) P = P fault
