-- How the text of a line is put together, and which logs may be written.
use Rattle.std.proofs.Common.{◌≡◌, ℕ, Bool, true, false, cond, List, [], ◌∷◌, ◌++◌, codes, map, Option, Some, None, refl, sym, ap, ◌∙◌, append_assoc, append-nil, add-one, take, ◌+◌, arith}
use Rattle.std.proofs.Math.Seq.{take-suc}
use Rattle.std.proofs.lemmas.Grind.{flat_map-append}
use Rattle.std.proofs.lemmas.List.{map-append}
use Rattle.std.proofs.lemmas.Option.{slice_get_within, get_or_from_slice_get}
use Rattle.std.specs.Prelude.{find}
use Rattle.std.specs.Fmt.{decimal}
use Rattle.std.specs.List.{join_with_byte, slice_get}
use Rattle.pl_event.specs.declared.log.Line.{Line}
use Rattle.pl_event.specs.declared.log.Log.{Log}
use Rattle.pl_event.specs.declared.log.Point.{Point}
use Rattle.pl_event.specs.declared.log.Record.{Record}
use Rattle.pl_event.specs.declared.log.Record.TheVariants as entry
use Rattle.log_text.specs.declared.cause.LogCause.TheVariants.{Page, Records, Hart, Ended, Open, Arc, Notice, Access, Range, Map}
use Rattle.log_grammar.specs.Form.{IsInForm, IsRecordInForm, IsPointInForm, ArePointsInForm, most_read, most_written}
use Rattle.log_grammar.specs.Spelling.{Entry, page, row, arc_words, header_text, kind_words, log_spelling, point_word, record_words, row_of, entry_text, entries_text, line_text}
use Rattle.log_text.specs.Reading.{with_line}
use Rattle.log_text.specs.WellFormed.{breaks, Continues, IsWellFormed, IsWritable, rules_in_order, rules_of_any_length}
use Rattle.log_text.specs.Writing.{arcs_text}

-- words after others
join_behind : (word : List ℕ) (words : List (List ℕ)) (other : List ℕ) (others : List (List ℕ))
    → join_with_byte 32 (word ∷ (words ++ other ∷ others)) ≡ join_with_byte 32 (word ∷ words) ++ 32 ∷ join_with_byte 32 (other ∷ others)
join_behind word [] other others = refl
join_behind word (next ∷ words) other others =
    ap (λ (t : List ℕ). word ++ 32 ∷ t) (join_behind next words other others)
    ∙ sym (append_assoc word (32 ∷ join_with_byte 32 (next ∷ words)) (32 ∷ join_with_byte 32 (other ∷ others)))

-- the arcs after the first one follow commas
points_joined : (point : Point) (points : List Point) → join_with_byte 44 (map point_word (point ∷ points)) ≡ point_word point ++ arcs_text false points
points_joined point [] = sym (append-nil (point_word point))
points_joined point (next ∷ points) = ap (λ (t : List ℕ). point_word point ++ 44 ∷ t) (points_joined next points)

arcs_joined : (word : List ℕ) (words : List (List ℕ)) (points : List Point) → join_with_byte 32 (word ∷ (words ++ arc_words points)) ≡ join_with_byte 32 (word ∷ words) ++ arcs_text true points
arcs_joined word words [] = ap (λ (ws : List (List ℕ)). join_with_byte 32 (word ∷ ws)) (append-nil words) ∙ sym (append-nil (join_with_byte 32 (word ∷ words)))
arcs_joined word words (point ∷ points) =
    join_behind word words (60 ∷ []) (join_with_byte 44 (map point_word (point ∷ points)) ∷ [])
    ∙ ap (λ (t : List ℕ). join_with_byte 32 (word ∷ words) ++ 32 ∷ 60 ∷ 32 ∷ t) (points_joined point points)

-- a record and then its arcs
pub row_joined : (what : Record) (points : List Point) → entry_text (row what points) ≡ join_with_byte 32 (record_words what) ++ arcs_text true points
row_joined (entry.Event event) points = arcs_joined (104 ∷ decimal event.hart) (kind_words event.kind) points
row_joined (entry.Notice hart point) points = arcs_joined (104 ∷ decimal hart) (codes "!" ∷ point_word point ∷ []) points

-- Logs that were read may be written

skips_second : {X : Type 0} (a b : Bool) (x y : X) (o : Option X) → cond a (Some x) (cond b (Some y) o) ≡ None → cond a (Some x) o ≡ None
skips_second true b x y o e = absurd cc
skips_second false true x y o e = absurd cc
skips_second false false x y o e = e

point_in_form : (point : Point) → IsPointInForm most_read point → IsPointInForm most_written point
point_in_form point form = (form.0, form.1, omega (arith, form.2))

points_in_form : (points : List Point) → ArePointsInForm most_read points → ArePointsInForm most_written points
points_in_form [] form = tt
points_in_form (point ∷ points) form = (point_in_form point form.0, points_in_form points form.1)

record_in_form : (what : Record) → IsRecordInForm most_read what → IsRecordInForm most_written what
record_in_form (entry.Event event) form = form
record_in_form (entry.Notice hart point) form = (form.0, point_in_form point form.1)

in_form : (e : Entry) → IsInForm most_read e → IsInForm most_written e
in_form (page run) form = form
in_form (row what points) form = (record_in_form what form.0, points_in_form points form.1, form.2)

pub continues : (harts : ℕ) (before : List Entry) (e : Entry) → Continues rules_in_order most_read harts before e → Continues rules_of_any_length most_written harts before e
continues harts before e read = record {
  in_form = in_form e read.in_form;
  breaks_none =
      skips_second (breaks harts before e Page) (breaks harts before e Records) Page Records (find (breaks harts before e) (Hart ∷ Ended ∷ Open ∷ Arc ∷ Notice ∷ Access ∷ Range ∷ Map ∷ [])) read.breaks_none;
}

pub writable : (log : Log) → IsWellFormed log → IsWritable log
writable log formed = record {
  some = formed.some;
  few = formed.few;
  block = formed.block;
  eight = formed.eight;
  lawful = λ before after e parted. continues log.harts before e (formed.lawful before after e parted);
  closed = formed.closed;
}

-- Lines, one after the other

-- the text of one more line
pub more_lines : (lines : List Line) (i : ℕ) (line : Line) → slice_get lines i ≡ Some line
    → entries_text (map row_of (take (i + 1) lines)) ≡ entries_text (map row_of (take i lines)) ++ line_text (entry_text (row_of line))
more_lines lines i line found =
    let one : take (i + 1) lines ≡ take i lines ++ line ∷ [] =
    rw add-one (take-suc lines i line (slice_get_within lines i line found) ∙ ap (λ (x : Line). take i lines ++ x ∷ []) (get_or_from_slice_get lines i line line found)) in
    ap (λ (ls : List Line). entries_text (map row_of ls)) one
    ∙ ap entries_text (map-append row_of (take i lines) (line ∷ []))
    ∙ flat_map-append (λ (e : Entry). line_text (entry_text e)) (map row_of (take i lines)) (row_of line ∷ [])
    ∙ ap (λ (t : List ℕ). entries_text (map row_of (take i lines)) ++ t) (append-nil (line_text (entry_text (row_of line))))

-- the spelling of a log with one more line
pub spelling_more : (log : Log) (line : Line) → log_spelling (with_line log line) ≡ log_spelling log ++ line_text (entry_text (row_of line))
spelling_more log line =
    let head = line_text (header_text log.harts log.block) in
    let before = map page log.pages ++ map row_of log.lines in
    ap (λ (es : List Entry). head ++ entries_text es) (ap (λ (rows : List Entry). map page log.pages ++ rows) (map-append row_of log.lines (line ∷ [])) ∙ sym (append_assoc (map page log.pages) (map row_of log.lines) (row_of line ∷ [])))
    ∙ ap (λ (t : List ℕ). head ++ t) (flat_map-append (λ (e : Entry). line_text (entry_text e)) before (row_of line ∷ []) ∙ ap (λ (t : List ℕ). entries_text before ++ t) (append-nil (line_text (entry_text (row_of line)))))
    ∙ sym (append_assoc head (entries_text before) (line_text (entry_text (row_of line))))
