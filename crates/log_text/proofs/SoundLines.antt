-- In a log that keeps the rules, each line is sound.
use Rattle.std.proofs.Common.{◌≡◌, ℕ, suc, false, leb, List, [], length, map, drop, replicate, Option, None, refl, ap, subst, ◌∙◌}
use Rattle.std.specs.Prelude.{All}
use Rattle.std.proofs.lemmas.Bool.{or_parts, leb-false}
use mathlib.Core.Option.{some}
use lib.ListN.{get_elem?}
use Rattle.pl_event.specs.Runs.{IsSoundLine, IsSoundRecord}
use Rattle.pl_event.specs.declared.log.Line.{Line}
use Rattle.pl_event.specs.declared.log.Log.{Log}
use Rattle.pl_event.specs.declared.log.Record.{Record}
use Rattle.pl_event.specs.declared.log.Record.TheVariants as entry
use Rattle.pl_event.proofs.MappedPages.{line_holds}
use Rattle.log_grammar.specs.Form.{IsRecordInForm, MayHave, most_written}
use Rattle.log_grammar.specs.Spelling.{row_of, points_from}
use Rattle.log_text.specs.declared.stream.LogStream.{LogStream}
use Rattle.log_text.specs.Parts.{HasSoundLines}
use Rattle.log_text.specs.Reading.{IsRead}
use Rattle.log_text.specs.Streaming.{IsStreamed}
use Rattle.log_text.specs.WellFormed.{Continues, rules_of_any_length}
use Rattle.log_text.proofs.ArcPoints.{no_points}
use Rattle.log_text.proofs.Flow.{AreLawful, flows}
use Rattle.log_text.proofs.LinesBefore.{front_of, parted, each_line}
use Rattle.log_text.proofs.RowRules.{RowSound, row_sound, valid_kind}
use Rattle.log_text.proofs.WriteLemmas.{continues}

module _ (log : Log) (lawful : AreLawful log) where
  pub row_continues : (i : ℕ) (line : Line) → get_elem? log.lines i ≡ some line → Continues rules_of_any_length most_written log.harts (front_of log i) (row_of line)
  row_continues i line at = lawful (front_of log i) (map row_of (drop (suc i) log.lines)) (row_of line) (parted log i line at)

  pub row_keeps : (i : ℕ) (line : Line) → get_elem? log.lines i ≡ some line → RowSound log.harts (front_of log i) line.what (points_from 0 line.arcs)
  row_keeps i line at = row_sound most_written log.harts (front_of log i) line.what (points_from 0 line.arcs) (row_continues i line at)

  record_of_row : (i : ℕ) (line : Line) → get_elem? log.lines i ≡ some line → length line.arcs ≡ 8 → (what : Record) → line.what ≡ what → IsRecordInForm most_written what → MayHave what (points_from 0 line.arcs) → IsSoundRecord log.harts line.arcs what
  record_of_row i line at long (entry.Event event) is form may =
      let sound : RowSound log.harts (front_of log i) (entry.Event event) (points_from 0 line.arcs) = subst (λ (w : Record). RowSound log.harts (front_of log i) w (points_from 0 line.arcs)) is (row_keeps i line at) in
      let known : leb log.harts event.hart ≡ false = (or_parts (leb log.harts event.hart) _ sound.hart).0 in
      (leb-false log.harts event.hart known, valid_kind (front_of log i) event.kind form.1 sound.access sound.range sound.map)
  record_of_row i line at long (entry.Notice own of) is form may =
      no_points line.arcs 0 may ∙ ap (λ (n : ℕ). none_of n) long
    where
      none_of : ℕ → List (Option ℕ)
      none_of n = replicate n None

  line_sound : (i : ℕ) (line : Line) → get_elem? log.lines i ≡ some line → length line.arcs ≡ 8 → IsSoundLine log.harts line
  line_sound i line at long =
      let form = (row_continues i line at).in_form in
      (long, record_of_row i line at long line.what refl form.0 form.2)

  pub lines_sound : All (λ line. length line.arcs ≡ 8) log.lines → All (IsSoundLine log.harts) log.lines
  lines_sound eight = each_line (IsSoundLine log.harts) log.lines (λ i line at. line_sound i line at (line_holds (λ (l : Line). length l.arcs ≡ 8) log.lines eight i line at))

-- so it is in a log whose lines were read
pub read_sound : (bytes rest : List ℕ) (log : Log) → IsRead bytes rest log → HasSoundLines log
read_sound bytes rest log read =
    let lawful : AreLawful log = λ before after e parted. continues log.harts before e (read.lawful before after e parted) in
    record {
      some = read.some;
      few = read.few;
      block = read.size;
      sound = lines_sound log lawful read.eight;
      flow = flows log lawful;
    }

pub streamed_sound : (limit : ℕ) (began now : Option (List ℕ)) (stream : LogStream) (log : Log) → IsStreamed limit began now stream log → HasSoundLines log
streamed_sound limit began now stream log streamed = read_sound _ _ log (streamed.reads [] (λ over. refl)).by.read
