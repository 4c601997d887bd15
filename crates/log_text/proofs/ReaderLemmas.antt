-- What a reader has read after one more line, and at the end.
use Rattle.std.proofs.Common.{◌≡◌, ℕ, zero, suc, ◌+◌, ◌-◌, ◌%◌, ◌^◌, ◌<◌, Bool, true, false, List, [], ◌∷◌, ◌++◌, length, drop, Option, Some, None, refl, sym, ap, ◌∙◌, subst, arith, inl}
use Rattle.std.specs.Prelude.{is_some, eqb, IfSome, IfNone, Err}
use Rattle.std.specs.List.{All, list_any}
use Rattle.std.proofs.lemmas.List.{append-nil, length-append}
use Rattle.std.proofs.lemmas.List.Elements.{All-append}
use Rattle.std.proofs.lemmas.Bool.{eqb-true, eqb-false}
use Rattle.pl_event.specs.declared.log.Line.{Line}
use Rattle.pl_event.specs.declared.log.Log.{Log}
use Rattle.pl_event.specs.declared.log.PageRun.{PageRun}
use Rattle.pl_event.specs.declared.log.Point.{Point}
use Rattle.pl_event.specs.declared.log.Record.{Record}
use Rattle.log_text.specs.declared.cause.LogCause.{LogCause}
use Rattle.log_text.specs.declared.cause.LogCause.TheVariants as cause
use Rattle.log_text.specs.declared.cause.LogRefused.{LogRefused}
use Rattle.log_text.specs.declared.cause.LogRefused.TheVariants as refused
use Rattle.log_grammar.specs.declared.points.ArcList.{ArcList}
use Rattle.log_text.specs.declared.reader.LogReader.{LogReader}
use Rattle.log_text.specs.declared.reader.Row.{Row}
use Rattle.log_text.specs.declared.tally.Tally.{Tally}
use Rattle.log_grammar.specs.Arcs.{ShowsPoints}
use Rattle.log_grammar.specs.Begins.{Begins, BeginsWithRow, BeginsWithNoRow, BeginsWithNoPage, BeginsWithHeader, BeginsWithNoHeader}
use Rattle.log_text.specs.Reading.{IsReadBy, HasRead, HoldsLine, whole_lines, last_bytes, HoldsNext, ReadsRow, IsOnly, IsNoLog, line_of, with_line, with_pages}
use Rattle.log_grammar.specs.Spelling.{Entry, page, row, header_text, line_text, entry_text, entries_text, entries_of}
use Rattle.log_text.specs.Tally.{Keeps}
use Rattle.log_text.specs.WellFormed.{broken, has_pending, is_row, IsLogText, IsFirstFault, IfFault}
use Rattle.log_text.proofs.Fronts.{behind, begins_longer, header_longer, no_row_longer, no_page_longer, no_header_longer}
use Rattle.log_text.proofs.ReadLemmas.{read-none, bare, read-push, read-only, entries-line, entries-pages, few_lines, fault-none, fault-broken, fault-open}
use Rattle.log_text.proofs.RowLaws.{valid_row, arcs_kept, arcs_eight, room_left}
use Rattle.log_text.proofs.Same.{IsWhole}

abbrev pub passed : LogReader → Tally → ArcList → LogReader
passed reader tally list = record { tally = tally; arcs = list; line = (reader.line + 1) % 2 ^ 32; refused = reader.refused }

next_number : (line count : ℕ) → line ≡ count + 2 → count < 2 ^ 31 → (line + 1) % 2 ^ 32 ≡ (count + 1) + 2
next_number line count e few = omega (arith, e, few)

-- what is left of a text after a line
abbrev pub left : List ℕ → List ℕ → List ℕ
left text after = drop (length text - length after) text

-- so few lines come before the text that they can be counted
few_before : (reader : LogReader) (bytes text later : List ℕ) (log : Log) → HoldsNext bytes text later → IsReadBy reader bytes (text ++ later) log → length (entries_of log) < 2 ^ 31
few_before reader bytes text later log next by = omega (arith, next.few, few_lines bytes (text ++ later) log by.read, length-append text later)

-- one more line
pub by_push : (reader : LogReader) (tally : Tally) (list : ArcList) (bytes rest after : List ℕ) (log new : Log) (e : Entry) → length (entries_of log) < 2 ^ 31 → IsReadBy reader bytes rest log → Begins rest e after
    → broken log.harts (entries_of log) e ≡ None → new.harts ≡ log.harts → new.block ≡ log.block → All IsWhole new.lines → entries_of new ≡ entries_of log ++ e ∷ [] → tally.harts ≡ reader.tally.harts
    → Keeps tally (entries_of log ++ e ∷ []) → IsReadBy (passed reader tally list) bytes after new
by_push reader tally list bytes rest after log new e small by begins none same size whole entries harts keeps = record {
  read = read-push bytes rest after log new e by.read begins none same size whole entries;
  keeps = subst (Keeps tally) (sym entries) keeps;
  sound = by.sound;
  harts = harts ∙ by.harts ∙ sym same;
  line = next_number reader.line (length (entries_of log)) by.line small ∙ ap (λ (n : ℕ). n + 2) (sym (ap length entries ∙ length-append (entries_of log) (e ∷ [])));
}

-- a run of pages
pub by_pages : (reader : LogReader) (tally : Tally) (list : ArcList) (bytes text later after : List ℕ) (log : Log) (run : PageRun) → log.lines ≡ [] → HoldsNext bytes text later → IsReadBy reader bytes (text ++ later) log → Begins text (page run) after
    → broken log.harts (entries_of log) (page run) ≡ None → tally.harts ≡ reader.tally.harts → Keeps tally (entries_of log ++ page run ∷ []) → IsReadBy (passed reader tally list) bytes (left text after ++ later) (with_pages log run)
by_pages reader tally list bytes text later after log run bare next by begins none harts keeps =
    subst (λ (r : List ℕ). IsReadBy (passed reader tally list) bytes (r ++ later) (with_pages log run)) (sym (behind text (line_text (entry_text (page run))) after begins.spelled))
    (by_push reader tally list bytes (text ++ later) (after ++ later) log (with_pages log run) (page run) (few_before reader bytes text later log next by) by (begins_longer text later after (page run) begins)
    none refl refl by.read.eight (entries-pages log run bare) harts keeps)

abbrev row_from : Record → Bool → ℕ → Row
row_from what has_arcs len = record { what = what; has_arcs = has_arcs; len = len }

one_whole : (line : Line) → IsWhole line → All IsWhole (line ∷ [])
one_whole line whole zero d h = whole
one_whole line whole (suc k) d h = absurd (omega arith)

any_row : (entries : List Entry) (what : Record) (points : List Point) → list_any is_row (entries ++ row what points ∷ []) ≡ false → ⊥
any_row [] what points e = absurd cc
any_row (page run ∷ entries) what points e = any_row entries what points e
any_row (row other arcs ∷ entries) what points e = absurd cc

-- a record
pub row_read : (reader : LogReader) (tally : Tally) (bytes text later after : List ℕ) (log : Log) (what : Record) (has_arcs : Bool) (list : ArcList) (len : ℕ) → HoldsNext bytes text later → HasRead reader bytes (text ++ later) log → BeginsWithRow text what has_arcs list after
    → ((points : List Point) → ShowsPoints has_arcs list points → broken reader.tally.harts (entries_of log) (row what points) ≡ None) → tally.harts ≡ reader.tally.harts
    → ((points : List Point) → broken reader.tally.harts (entries_of log) (row what points) ≡ None → Keeps tally (entries_of log ++ row what points ∷ [])) → ReadsRow (passed reader tally list) bytes (left text after ++ later) log (row_from what has_arcs len)
row_read reader tally bytes text later after log what has_arcs list len next has begins kept harts keeps = record {
  read = subst (λ (r : List ℕ). HasRead (passed reader tally list) bytes (r ++ later) (with_line log line)) (sym (behind text (line_text (entry_text e)) after begins.begins.spelled)) (record {
    by =
        by_push reader tally list bytes (text ++ later) (after ++ later) log (with_line log line) e (few_before reader bytes text later log next has.by) has.by (begins_longer text later after e begins.begins) none refl refl whole entries harts
        (keeps points kept_here);
    begun = λ bare. absurd (any_row (entries_of log) what points (ap (list_any is_row) (sym entries) ∙ bare));
  });
  valid = valid_row log.harts (entries_of log) what points begins.begins.in_form none;
  room = room_left log.harts log what points none;
}
  where
    points : List Point
    points = begins.points

    e : Entry
    e = row what points

    line : Line
    line = line_of (passed reader tally list) (row_from what has_arcs len)

    kept_here : broken reader.tally.harts (entries_of log) e ≡ None
    kept_here = kept points begins.shows

    none : broken log.harts (entries_of log) e ≡ None
    none = ap (λ (h : ℕ). broken h (entries_of log) e) (sym has.by.harts) ∙ kept_here

    whole : All IsWhole (with_line log line).lines
    whole = All-append IsWhole log.lines (line ∷ []) has.by.read.eight (one_whole line (arcs_eight points has_arcs list begins.shows))

    entries : entries_of (with_line log line) ≡ entries_of log ++ e ∷ []
    entries = entries-line log line ∙ ap (λ (x : Entry). entries_of log ++ x ∷ []) (ap (row what) (arcs_kept log.harts (entries_of log) what points has_arcs list has.by.read.some has.by.read.few begins.shows none))

-- a record that breaks a rule
pub row_broken : (reader : LogReader) (bytes text later after : List ℕ) (log : Log) (what : Record) (has_arcs : Bool) (list : ArcList) (why : LogCause) → HasRead reader bytes (text ++ later) log → BeginsWithRow text what has_arcs list after
    → ((points : List Point) → ShowsPoints has_arcs list points → broken reader.tally.harts (entries_of log) (row what points) ≡ Some why) → IsNoLog bytes (record { line = reader.line; cause = why })
row_broken reader bytes text later after log what has_arcs list why has begins broke =
    fault-broken bytes (text ++ later) (after ++ later) log reader.line (row what begins.points) why has.by.read has.by.line (begins_longer text later after (row what begins.points) begins.begins)
    (ap (λ (h : ℕ). broken h (entries_of log) (row what begins.points)) (sym has.by.harts) ∙ broke begins.points begins.shows)

-- a run of pages that breaks a rule
pub page_broken : (reader : LogReader) (bytes text later after : List ℕ) (log : Log) (run : PageRun) (why : LogCause) → IsReadBy reader bytes (text ++ later) log → Begins text (page run) after
    → broken reader.tally.harts (entries_of log) (page run) ≡ Some why → IsNoLog bytes (record { line = reader.line; cause = why })
page_broken reader bytes text later after log run why by begins broke =
    fault-broken bytes (text ++ later) (after ++ later) log reader.line (page run) why by.read by.line (begins_longer text later after (page run) begins) (ap (λ (h : ℕ). broken h (entries_of log) (page run)) (sym by.harts) ∙ broke)

-- no run of pages any more
pub pages_over : (reader : LogReader) (bytes text later : List ℕ) (log : Log) → HoldsNext bytes text later → IsReadBy reader bytes (text ++ later) log → BeginsWithNoPage text → HasRead reader bytes (text ++ later) log
pages_over reader bytes text later log next by none = record { by = by; begun = λ bare. no_page_longer text later next.line none }

-- The end

no_later : (later : List ℕ) → HoldsLine [] later → later ≡ []
no_later later (whole_lines some ends) = absurd (omega (arith, some))
no_later later (last_bytes none) = none

-- nothing is left
at_end : (bytes text later : List ℕ) → HoldsNext bytes text later → text ≡ [] → text ++ later ≡ []
at_end bytes text later next empty =
    let nothing : later ≡ [] = no_later later (subst (λ (t : List ℕ). HoldsLine t later) empty next.line) in
    ap (λ (t : List ℕ). t ++ later) empty ∙ nothing

pub end_clean : (reader : LogReader) (bytes text later : List ℕ) (log : Log) → HoldsNext bytes text later → HasRead reader bytes (text ++ later) log → text ≡ [] → has_pending (entries_of log) ≡ false → IsOnly bytes log
end_clean reader bytes text later log next has empty closed = read-only bytes (text ++ later) log has.by.read (at_end bytes text later next empty) closed

pub end_open : (reader : LogReader) (bytes text later : List ℕ) (log : Log) → HoldsNext bytes text later → HasRead reader bytes (text ++ later) log → text ≡ [] → has_pending (entries_of log) ≡ true → IsNoLog bytes (record { line = reader.line; cause = cause.Open })
end_open reader bytes text later log next has empty pending = fault-open bytes (text ++ later) log reader.line has.by.read has.by.line (at_end bytes text later next empty) pending

-- no well-formed line
pub end_formless : (reader : LogReader) (bytes text later : List ℕ) (log : Log) → HoldsNext bytes text later → HasRead reader bytes (text ++ later) log → 0 < length text → BeginsWithNoRow text → BeginsWithNoPage text
    → IsNoLog bytes (record { line = reader.line; cause = cause.Form })
end_formless reader bytes text later log next has some no_row no_page =
    fault-none bytes (text ++ later) log reader.line has.by.read has.by.line (omega (arith, some, length-append text later)) (no_row_longer text later next.line no_row) (no_page_longer text later next.line no_page)

-- a run of pages after a record
page_misplaced : (harts : ℕ) (before : List Entry) (run : PageRun) → list_any is_row before ≡ true → broken harts before (page run) ≡ Some cause.Page
page_misplaced harts before run some = rw some refl

some_row : (b : Bool) (P : Type 0) → (b ≡ false → P) → (P → ⊥) → b ≡ true
some_row true P h n = refl
some_row false P h n = absurd (n (h refl))

pub end_pages : (reader : LogReader) (bytes text later after : List ℕ) (log : Log) (run : PageRun) → HasRead reader bytes (text ++ later) log → Begins text (page run) after → IsNoLog bytes (record { line = reader.line; cause = cause.Page })
end_pages reader bytes text later after log run has begins =
    let here = begins_longer text later after (page run) begins in
    let some : list_any is_row (entries_of log) ≡ true = some_row (list_any is_row (entries_of log)) (BeginsWithNoPage (text ++ later)) has.begun (λ none. none run (after ++ later) here.in_form here.spelled) in
    page_broken reader bytes text later after log run cause.Page has.by begins (page_misplaced reader.tally.harts (entries_of log) run some)

-- no header
pub no_header : (text later : List ℕ) → HoldsLine text later → BeginsWithNoHeader text → IsNoLog (text ++ later) (record { line = 1; cause = cause.Header })
no_header text later holds missed = record {
  first = inl (record { line = refl; named = refl; none = none });
  none = λ log spelled. none log.harts log.block (entries_text (entries_of log)) spelled.formed.some spelled.formed.few spelled.formed.block spelled.spelled;
}
  where
    none : BeginsWithNoHeader (text ++ later)
    none = no_header_longer text later holds missed

-- what a test for something tells
pub some_is : {X : Type 0} (o : Option X) (P : X → Type 0) → is_some o ≡ true → IfSome o P → (x : X) × P x
some_is None P e h = absurd cc
some_is (Some x) P e h = (x, h)

pub none_is : {X : Type 0} (o : Option X) (P : Type 0) → is_some o ≡ false → IfNone o P → P
none_is None P e h = h
none_is (Some x) P e h = absurd cc

pub no_bytes : (rest : List ℕ) → true ≡ eqb (length rest) 0 → rest ≡ []
no_bytes [] e = refl
no_bytes (byte ∷ rest) e = absurd (omega (arith, eqb-true (suc (length rest)) 0 (sym e)))

pub some_bytes : (rest : List ℕ) → false ≡ eqb (length rest) 0 → 0 < length rest
some_bytes rest e = omega (arith, eqb-false (length rest) 0 (sym e))

-- a log with other pages
abbrev pub paged : Log → List PageRun → Log
paged log pages = record log { pages = pages }

pub same_pages : (log : Log) (pages : List PageRun) → log.pages ≡ pages → log ≡ paged log pages
same_pages log pages e = ap (λ (p : List PageRun). record log { pages = p }) e

-- after the header
pub by_header : (text later rest : List ℕ) (harts block : ℕ) (tally : Tally) (list : ArcList) → BeginsWithHeader text harts block rest → Keeps tally [] → tally.harts ≡ harts
    → IsReadBy (record { tally = tally; arcs = list; line = 2; refused = None }) (text ++ later) (left text rest ++ later) (bare harts block)
by_header text later rest harts block tally list header keeps same =
    subst (λ (r : List ℕ). IsReadBy (record { tally = tally; arcs = list; line = 2; refused = None }) (text ++ later) (r ++ later) (bare harts block)) (sym (behind text (line_text (header_text harts block)) rest header.spelled)) (record {
      read = read-none (text ++ later) (rest ++ later) harts block (header_longer text later rest harts block header);
      keeps = keeps;
      harts = same;
      line = refl;
      sound = refl;
    })

-- a log with other lines
abbrev pub lined : Log → List Line → Log
lined log lines = record log { lines = lines }

pub same_lines : (log : Log) (lines : List Line) → log.lines ≡ lines → log ≡ lined log lines
same_lines log lines e = ap (λ (l : List Line). record log { lines = l }) e

-- nothing is to come after a text that is the last
pub next_last : (bytes text : List ℕ) → length bytes < 2 ^ 31 → HoldsNext bytes text []
next_last bytes text few = record { line = last_bytes refl; few = omega (arith, few) }

-- a fault of bytes after which nothing is to come is one of the bytes
pub first_fault : (S T : Type 0) (why : LogRefused) (bytes : List ℕ) → IfFault {T = S} (Err why) (IsNoLog (bytes ++ [])) → IfFault {T = T} (Err why) (IsFirstFault bytes)
first_fault S T refused.NoMemory bytes h = tt
first_fault S T (refused.Fault fault) bytes h = let here : IsNoLog bytes fault = subst (λ (b : List ℕ). IsNoLog b fault) (append-nil bytes) h in here.first

pub no_log : (S T : Type 0) (why : LogRefused) (bytes : List ℕ) → IfFault {T = S} (Err why) (IsNoLog (bytes ++ [])) → IfFault {T = T} (Err why) (λ _. (log : Log) → IsLogText bytes log → ⊥)
no_log S T refused.NoMemory bytes h = tt
no_log S T (refused.Fault fault) bytes h = let here : IsNoLog bytes fault = subst (λ (b : List ℕ). IsNoLog b fault) (append-nil bytes) h in here.none
