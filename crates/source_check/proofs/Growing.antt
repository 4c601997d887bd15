-- A log that grows by the lines that are read of it.
use Rattle.std.proofs.Common.{◌≡◌, ℕ, ◌+◌, ◌<◌, List, [], ◌∷◌, ◌++◌, length, Option, Some, None, Result, Ok, refl, sym, ap, subst, ◌∙◌, append_assoc, append-nil, arith}
use Rattle.std.specs.List.{slice_get}
use Rattle.std.proofs.lemmas.List.{length-append}
use Rattle.std.proofs.lemmas.Option.{slice_get-get_or}
use Rattle.std.proofs.Math.Seq.{get_or-append_seam}
use Rattle.pl_event.specs.declared.log.Line.{Line}
use Rattle.pl_event.specs.declared.log.Log.{Log}
use Rattle.log_check.specs.Checked.{GrowsTo, IsCheckable, IsChecked, MayPass}
use Rattle.log_check.specs.declared.order_check.OrderCheck.{OrderCheck}
use Rattle.log_text.specs.Parts.{HasSoundLines}
use Rattle.log_text.specs.Reading.{line_of, with_line}
use Rattle.log_text.specs.Streaming.{IfNext, IfOver, IsStreamed, StreamsRow, WasRead, begun_log}
use Rattle.log_text.specs.declared.stream.LogEnd.{LogEnd}
use Rattle.log_text.specs.declared.reader.Row.{Row}
use Rattle.log_text.specs.declared.stream.LogStream.{LogStream}
use Rattle.log_text.specs.declared.stream.Opening.{Opening}
use Rattle.source_check.specs.inner.Checking.{Follows}

pub checkable : (log : Log) → HasSoundLines log → IsCheckable log
checkable log sound = record { few = sound.few; block = sound.block; sound = sound.sound; flow = sound.flow }

-- no line more, one more, and one more again
pub grows_none : (log : Log) → HasSoundLines log → GrowsTo log log
grows_none log sound = record { block = refl; more = []; lines = sym (append-nil log.lines); flow = sound.flow }

pub grows_line : (log : Log) (line : Line) → HasSoundLines (with_line log line) → GrowsTo log (with_line log line)
grows_line log line sound = record { block = refl; more = line ∷ []; lines = refl; flow = sound.flow }

pub grows_more : (log whole : Log) (line : Line) → GrowsTo log whole → HasSoundLines (with_line whole line) → GrowsTo log (with_line whole line)
grows_more log whole line grows sound = record {
  block = grows.block;
  more = grows.more ++ line ∷ [];
  lines = ap (λ (lines : List Line). lines ++ line ∷ []) grows.lines ∙ append_assoc log.lines grows.more (line ∷ []);
  flow = sound.flow;
}

-- the length with one line more
pub one_more : (log : Log) (line : Line) → length log.lines + 1 ≡ length (with_line log line).lines
one_more log line = sym (length-append log.lines (line ∷ []))

last_there : (lines : List Line) (line : Line) → slice_get (lines ++ line ∷ []) (length lines) ≡ Some line
last_there lines line =
    slice_get-get_or (lines ++ line ∷ []) (length lines) line (omega (arith, length-append lines (line ∷ [])))
    ∙ ap Some (get_or-append_seam lines line [] line)

-- the line that was read comes next
pub may_pass : (check : OrderCheck) (log : Log) (line : Line) → HasSoundLines (with_line log line) → length log.lines < 2000000 → IsChecked check (with_line log line) (length log.lines) → MayPass check (with_line log line) (length log.lines) line
may_pass check log line sound room checked = record {
  checkable = checkable (with_line log line) sound;
  few = omega (arith, room, one_more log line);
  here = last_there log.lines line;
  checked = checked;
}

-- all lines are checked again
pub checked_all : (check : OrderCheck) (log : Log) (line : Line) → IsChecked check (with_line log line) (length log.lines + 1) → IsChecked check (with_line log line) (length (with_line log line).lines)
checked_all check log line checked = subst (IsChecked check (with_line log line)) (one_more log line) checked

-- more is known of the bytes
pub was_read_as : (limit : ℕ) (began now : Option (List ℕ)) (P Q : List ℕ → Type 0) → ((bytes : List ℕ) → P bytes → Q bytes) → WasRead limit began now P → WasRead limit began now Q
was_read_as limit began now P Q knows was = record { bytes = was.bytes; consumed = was.consumed; end = was.end; few = was.few; holds = knows was.bytes was.holds }

-- what the laws say of the lines that a stream has read, and of a check of a log that grows
abbrev pub StreamedLines : Type 0
StreamedLines = (limit : ℕ) (began now : Option (List ℕ)) (stream : LogStream) (log : Log) → IsStreamed limit began now stream log → HasSoundLines log

abbrev pub GrownChecks : Type 0
GrownChecks = (check : OrderCheck) (old new : Log) → GrowsTo old new → IsChecked check old (length old.lines) → IsChecked check new (length old.lines)

-- the row that was read comes next
pub row_next : StreamedLines → GrownChecks → (limit : ℕ) (began now : Option (List ℕ)) (stream : LogStream) (check : OrderCheck) (log : Log) (row : Row) → StreamsRow limit began now stream log row → IsChecked check log (length log.lines)
    → MayPass check (with_line log (line_of stream.reader row)) (length log.lines) (line_of stream.reader row)
row_next lines checks limit began now stream check log row reads checked =
    let line = line_of stream.reader row in
    let sound : HasSoundLines (with_line log line) = lines limit began now stream (with_line log line) reads.read in
    may_pass check log line sound reads.room (checks check log (with_line log line) (grows_line log line sound) checked)

-- no line was read yet
pub begins : StreamedLines → (limit : ℕ) (began now : Option (List ℕ)) (opening : Opening) (check : OrderCheck) → ((log : Log) → IsCheckable log → log.block ≡ opening.block → IsChecked check log 0)
    → IsStreamed limit began now opening.stream (begun_log opening) → Follows limit began now opening.stream check (begun_log opening)
begins lines limit began now opening check new streamed = record {
  streamed = streamed;
  checked = new (begun_log opening) (checkable (begun_log opening) (lines limit began now opening.stream (begun_log opening) streamed)) refl;
}

abbrev found_row : Option Row → Result (Option Row) LogEnd
found_row row = Ok row

-- what holds of the line that was found
pub row_of : (R : Row → Type 0) (result : Result (Option Row) LogEnd) (found : Option Row) (row : Row) → result ≡ Ok found → found ≡ Some row → IfNext result R → R row
row_of R result found row is some next = subst (λ (o : Option Row). IfNext (found_row o) R) some (subst (λ (r : Result (Option Row) LogEnd). IfNext r R) is next)

-- what holds at the end
pub over_of : (P : Type 0) (result : Result (Option Row) LogEnd) (found : Option Row) → result ≡ Ok found → found ≡ None → IfOver result P → P
over_of P result found is none over = subst (λ (o : Option Row). IfOver (found_row o) P) none (subst (λ (r : Result (Option Row) LogEnd). IfOver r P) is over)
