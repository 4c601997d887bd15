-- What the rules on lines give a reader of a log.
use Rattle.std.proofs.Common.{◌≡◌, ℕ, zero, suc, ◌+◌, ◌<◌, ◌≤◌, max, Bool, true, false, cond, leb, List, [], ◌∷◌, ◌++◌, length, map, replicate, Option, Some, None, refl, sym, subst, ◌∙◌, append_assoc, arith}
use Rattle.std.specs.Prelude.{count_by, find, fold, All, Result, Ok, Err, IfOk}
use Rattle.std.specs.List.{list_any, AllByRecursion}
use Rattle.std.proofs.lemmas.Bool.{ltb-false, leb-false, not-false, or_parts}
use Rattle.std.proofs.lemmas.List.Elements.{All-from_recursion}
use Rattle.std.proofs.lemmas.List.Sums.{sum_by-append, sum_by_from}
use Rattle.pl_event.specs.Numbers.{hart_of}
use Rattle.pl_event.specs.declared.log.Line.{Line}
use Rattle.pl_event.specs.declared.log.Log.{Log}
use Rattle.pl_event.specs.declared.log.PageRun.{PageRun}
use Rattle.pl_event.specs.declared.log.Point.{Point}
use Rattle.pl_event.specs.declared.log.Record.{Record}
use Rattle.pl_event.specs.declared.log.Record.TheVariants as entry
use Rattle.log_text.specs.declared.cause.LogCause.TheVariants.{Page, Records, Hart, Ended, Open, Arc, Notice, Access, Range, Map}
use Rattle.log_text.specs.declared.cause.LogRefused.{LogRefused}
use Rattle.std.proofs.lemmas.List.{length-map}
use Rattle.log_grammar.specs.declared.points.ArcList.{ArcList}
use Rattle.pl_event.specs.Edges.{some_number}
use Rattle.log_grammar.specs.Arcs.{ShowsPoints, is_rising, highest_hart}
use Rattle.log_grammar.specs.Form.{IsInForm, IsRecordInForm, most_read}
use Rattle.log_text.specs.Parts.{HasValidParts, IsValidLine, IsValidRecord}
use Rattle.log_text.specs.Reading.{IsOnly, arcs_of}
use Rattle.log_grammar.specs.Spelling.{Entry, page, row, row_of, points_from, entries_of}
use Rattle.log_text.specs.WellFormed.{is_row, breaks, breaks_page, breaks_records, breaks_hart, breaks_ended, breaks_arc, breaks_notice, names_past, is_waiting, broken, is_misaligned, passes_end, is_bad_map, on_event, Continues, IsLawful, IsWellFormed, rules_in_order}
use Rattle.log_text.proofs.RowRules.{valid_kind}

-- where nothing is found, no test holds
none_found : {X : Type 0} (b : Bool) (x : X) (o : Option X) → cond b (Some x) o ≡ None → (b ≡ false) × (o ≡ None)
none_found true x o e = absurd cc
none_found false x o e = (refl, e)

-- what a record that may come here keeps
pub record RowKeeps (harts : ℕ) (before : List Entry) (what : Record) (points : List Point) : Type 0 where
  pub records : breaks_records before ≡ false
  pub hart : breaks_hart harts what points ≡ false
  pub ended : breaks_ended before what ≡ false
  pub waiting : is_waiting before (hart_of what) ≡ false
  pub arc : breaks_arc before what points ≡ false
  pub notice : breaks_notice before what ≡ false
  pub access : on_event is_misaligned what ≡ false
  pub range : on_event passes_end what ≡ false
  pub map : on_event (is_bad_map before) what ≡ false

pub row_keeps : (harts : ℕ) (before : List Entry) (what : Record) (points : List Point) → broken harts before (row what points) ≡ None → RowKeeps harts before what points
row_keeps harts before what points none =
    let records = none_found (breaks_records before) Records (find (breaks harts before (row what points)) (Hart ∷ Ended ∷ Open ∷ Arc ∷ Notice ∷ Access ∷ Range ∷ Map ∷ [])) none in
    let hart = none_found (breaks_hart harts what points) Hart (find (breaks harts before (row what points)) (Ended ∷ Open ∷ Arc ∷ Notice ∷ Access ∷ Range ∷ Map ∷ [])) records.1 in
    let ended = none_found (breaks_ended before what) Ended (find (breaks harts before (row what points)) (Open ∷ Arc ∷ Notice ∷ Access ∷ Range ∷ Map ∷ [])) hart.1 in
    let waits = none_found (is_waiting before (hart_of what)) Open (find (breaks harts before (row what points)) (Arc ∷ Notice ∷ Access ∷ Range ∷ Map ∷ [])) ended.1 in
    let arc = none_found (breaks_arc before what points) Arc (find (breaks harts before (row what points)) (Notice ∷ Access ∷ Range ∷ Map ∷ [])) waits.1 in
    let notice = none_found (breaks_notice before what) Notice (find (breaks harts before (row what points)) (Access ∷ Range ∷ Map ∷ [])) arc.1 in
    let access = none_found (on_event is_misaligned what) Access (find (breaks harts before (row what points)) (Range ∷ Map ∷ [])) notice.1 in
    let range = none_found (on_event passes_end what) Range (find (breaks harts before (row what points)) (Map ∷ [])) access.1 in
    let maps = none_found (on_event (is_bad_map before) what) Map None range.1 in
    record { records = records.0; hart = hart.0; ended = ended.0; waiting = waits.0; arc = arc.0; notice = notice.0; access = access.0; range = range.0; map = maps.0 }

valid_record : (harts : ℕ) (before : List Entry) (what : Record) (points : List Point) → IsRecordInForm most_read what → RowKeeps harts before what points → IsValidRecord harts what
valid_record harts before (entry.Event event) points form keeps = (leb-false harts event.hart (or_parts _ _ keeps.hart).0, valid_kind before event.kind form.1 keeps.access keeps.range keeps.map)
valid_record harts before (entry.Notice hart point) points form keeps = leb-false harts hart (or_parts _ _ (or_parts _ _ keeps.hart).0).0

pub valid_row : (harts : ℕ) (before : List Entry) (what : Record) (points : List Point) → IsInForm most_read (row what points) → broken harts before (row what points) ≡ None → IsValidRecord harts what
valid_row harts before what points form none = valid_record harts before what points form.0 (row_keeps harts before what points none)

-- Arcs that break no rule

below : (harts high : ℕ) (points : List Point) → list_any (λ (point : Point). leb harts point.hart) points ≡ false → high < harts → fold (λ h (point : Point). max h point.hart) high points < harts
below harts high [] none low = low
below harts high (point ∷ points) none low =
    let both : (leb harts point.hart ≡ false) × (list_any (λ (p : Point). leb harts p.hart) points ≡ false) = or_parts (leb harts point.hart) (list_any (λ (p : Point). leb harts p.hart) points) none in
    let here : point.hart < harts = leb-false harts point.hart both.0 in
    below harts (max high point.hart) points both.1 (omega (arith, low, here))

no_points : (hart count : ℕ) → points_from hart (replicate count None) ≡ []
no_points hart zero = refl
no_points hart (suc count) = no_points (suc hart) count

rises : (before : List Entry) (what : Record) (points : List Point) → breaks_arc before what points ≡ false → is_rising points ≡ true
rises before what points kept = not-false _ (or_parts _ _ (or_parts _ _ kept).0).1

-- the arcs that are kept are the points
pub arcs_kept : (harts : ℕ) (before : List Entry) (what : Record) (points : List Point) (has_arcs : Bool) (list : ArcList) → 1 ≤ harts → harts ≤ 8 → ShowsPoints has_arcs list points → broken harts before (row what points) ≡ None
    → points_from 0 (arcs_of has_arcs list) ≡ points
arcs_kept harts before what points false list some few shows none = no_points 0 8 ∙ sym shows
arcs_kept harts before what points true list some few shows none =
    let keeps : RowKeeps harts before what points = row_keeps harts before what points none in
    let rising : is_rising points ≡ true = rises before what points keeps.arc in
    let past : list_any (λ (p : Point). leb harts p.hart) points ≡ false = (or_parts (names_past harts what) (list_any (λ (p : Point). leb harts p.hart) points) keeps.hart).1 in
    let positive : 0 < harts = omega (arith, some) in
    let low : highest_hart points < harts = below harts 0 points past positive in
    let small : highest_hart points < 8 = omega (arith, low, few) in
    shows.kept rising small

pub arcs_eight : (points : List Point) (has_arcs : Bool) (list : ArcList) → ShowsPoints has_arcs list points → length (arcs_of has_arcs list) ≡ 8
arcs_eight points false list shows = refl
arcs_eight points true list shows = length-map list.numbers some_number ∙ shows.eight

-- Counts

no_rows : (pages : List PageRun) → count_by is_row (map page pages) ≡ 0
no_rows [] = refl
no_rows (run ∷ pages) = no_rows pages

all_rows : (lines : List Line) → count_by is_row (map row_of lines) ≡ length lines
all_rows [] = refl
all_rows (line ∷ lines) = omega (arith, sum_by_from (λ e. cond (is_row e) 1 0) 1 (map row_of lines), all_rows lines)

-- the records of a log are its lines
pub rows_in : (log : Log) → count_by is_row (entries_of log) ≡ length log.lines
rows_in log = omega (arith, sum_by-append (λ e. cond (is_row e) 1 0) (map page log.pages) (map row_of log.lines), no_rows log.pages, all_rows log.lines)

pub room_left : (harts : ℕ) (log : Log) (what : Record) (points : List Point) → broken harts (entries_of log) (row what points) ≡ None → length log.lines < 2000000
room_left harts log what points none = omega (arith, leb-false 2000000 (count_by is_row (entries_of log)) (row_keeps harts (entries_of log) what points none).records, rows_in log)

-- Well-formed logs

abbrev ContinuesRead : ℕ → List Entry → Entry → Type 0
ContinuesRead harts before e = Continues rules_in_order most_read harts before e

abbrev IsLawfulRead : ℕ → List Entry → Type 0
IsLawfulRead harts entries = IsLawful rules_in_order most_read harts entries

-- a page line that may come here ends by the last page
page_inside : (harts : ℕ) (before : List Entry) (run : PageRun) → ContinuesRead harts before (page run) → run.first + run.count ≤ 4096
page_inside harts before run continues =
    let breaks_none = (none_found (breaks_page before run) Page _ continues.breaks_none).0 in
    let three = (or_parts _ _ breaks_none).0 in
    ltb-false 4096 (run.first + run.count) (or_parts _ _ three).1

-- all page lines, one after the other
pages_inside : (harts : ℕ) (front : List Entry) (pages : List PageRun) (rest : List Entry) → IsLawfulRead harts (front ++ (map page pages ++ rest)) → AllByRecursion (λ run. run.first + run.count ≤ 4096) pages
pages_inside harts front [] rest lawful = tt
pages_inside harts front (run ∷ pages) rest lawful = (
  page_inside harts front run (lawful front (map page pages ++ rest) (page run) refl),
  pages_inside harts (front ++ page run ∷ []) pages rest (subst (IsLawfulRead harts) (sym (append_assoc front (page run ∷ []) (map page pages ++ rest))) lawful),
)

pub pages_lawful : (harts : ℕ) (pages : List PageRun) → IsLawfulRead harts (map page pages ++ []) → All (λ run. run.first + run.count ≤ 4096) pages
pages_lawful harts pages lawful = All-from_recursion (λ run. run.first + run.count ≤ 4096) pages (pages_inside harts [] pages [] lawful)

-- all records, one after the other
lines_valid : (harts : ℕ) (front : List Entry) (lines : List Line) → IsLawfulRead harts (front ++ map row_of lines) → AllByRecursion (IsValidLine harts) lines
lines_valid harts front [] lawful = tt
lines_valid harts front (line ∷ lines) lawful =
    let continues = lawful front (map row_of lines) (row_of line) refl in (
      valid_row harts front line.what (points_from 0 line.arcs) continues.in_form continues.breaks_none,
      lines_valid harts (front ++ row_of line ∷ []) lines (subst (IsLawfulRead harts) (sym (append_assoc front (row_of line ∷ []) (map row_of lines))) lawful),
    )

-- at most 2,000,000 of them
few_rows : (harts : ℕ) (front : List Entry) (lines : List Line) → count_by is_row front ≤ 2000000 → IsLawfulRead harts (front ++ map row_of lines) → count_by is_row front + length lines ≤ 2000000
few_rows harts front [] low lawful = omega arith
few_rows harts front (line ∷ lines) low lawful =
    let continues = lawful front (map row_of lines) (row_of line) refl in
    let few = leb-false 2000000 (count_by is_row front) (row_keeps harts front line.what (points_from 0 line.arcs) continues.breaks_none).records in
    let one : count_by is_row (front ++ row_of line ∷ []) ≡ count_by is_row front + 1 = sum_by-append (λ e. cond (is_row e) 1 0) front (row_of line ∷ []) in
    let rest = few_rows harts (front ++ row_of line ∷ []) lines (omega (arith, few, one)) (subst (IsLawfulRead harts) (sym (append_assoc front (row_of line ∷ []) (map row_of lines))) lawful) in
    omega (arith, rest, one)

-- what a well-formed log has
pub parts_of : (log : Log) → IsWellFormed log → HasValidParts log
parts_of log formed = record {
  some = formed.some;
  few = formed.few;
  inside = All-from_recursion (λ run. run.first + run.count ≤ 4096) log.pages (pages_inside log.harts [] log.pages (map row_of log.lines) formed.lawful);
  valid = All-from_recursion (IsValidLine log.harts) log.lines (lines_valid log.harts (map page log.pages) log.lines formed.lawful);
  short = omega (arith, few_rows log.harts (map page log.pages) log.lines (omega (arith, no_rows log.pages)) formed.lawful, no_rows log.pages);
}

pub parts_if : (result : Result Log LogRefused) (bytes : List ℕ) → IfOk result (IsOnly bytes) → IfOk result HasValidParts
parts_if (Ok log) bytes only = parts_of log only.text.formed
parts_if (Err refused) bytes only = tt
