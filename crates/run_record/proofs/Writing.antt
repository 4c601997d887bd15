-- A run that is written step by step.
use Rattle.std.proofs.Common.{◌≡◌, ℕ, ◌+◌, ◌<◌, ◌≤◌, List, [], ◌∷◌, ◌++◌, append_assoc, append-nil, length, take, get_or, refl, sym, ap, ◌∙◌}
use Rattle.std.specs.Prelude.{All}
use Rattle.std.specs.List.{AllByRecursion}
use Rattle.std.proofs.lemmas.List.{take_all, take_more}
use Rattle.std.proofs.lemmas.List.Elements.{All-from_recursion, recursion_from_All}
use Rattle.pl_event.specs.declared.log.Line.{Line}
use Rattle.pl_event.specs.declared.log.Log.{Log}
use Rattle.log_grammar.specs.Spelling.{log_spelling}
use Rattle.log_text.specs.Reading.{with_line}
use Rattle.log_text.specs.Writing.{log_of}
use Rattle.core_sim.specs.declared.job.Job.{Job}
use Rattle.core_sim.specs.Start.{start_runs}
use Rattle.arc_reduce.specs.Drawn.{HaveEight}
use Rattle.run_record.specs.declared.recording.Recording.{Recording}
use Rattle.run_record.specs.Recording.{IsRecordedWhole, IsRecording}
use Rattle.run_record.specs.Texts.{IsRecordText}
use Rattle.run_record.specs.Writing.{IsWriting, with_lines}

behind : (P : Line → Type 0) (front lines : List Line) → AllByRecursion P (front ++ lines) → AllByRecursion P lines
behind P [] lines all = all
behind P (x ∷ front) lines all = behind P front lines all.1

-- the last lines have arcs of eight harts
pub eight_behind : (front lines : List Line) → HaveEight (front ++ lines) → All (λ line. length line.arcs ≡ 8) lines
eight_behind front lines eight =
    All-from_recursion (λ line. length line.arcs ≡ 8) lines (behind (λ line. length line.arcs ≡ 8) front lines (recursion_from_All (λ line. length line.arcs ≡ 8) (front ++ lines) eight))

-- the lines of a step have arcs of eight harts
pub all_eight : (job : Job) (front lines : List Line) (recording : Recording) → IsRecording job (front ++ lines) recording → All (λ line. length line.arcs ≡ 8) lines
all_eight job front lines recording r = eight_behind front lines r.has.marked.eight

-- no line is added
pub none_added : (log : Log) → log_spelling log ≡ log_spelling (with_lines log [])
none_added log = ap (λ (lines : List Line). log_spelling (record log { lines = lines })) (sym (append-nil log.lines))

-- one line more is added
pub one_added : (log : Log) (lines : List Line) (i : ℕ) (line : Line) → i < length lines → line ≡ get_or lines i line → log_spelling (with_line (with_lines log (take i lines)) line) ≡ log_spelling (with_lines log (take (i + 1) lines))
one_added log lines i line low is =
    ap (λ (all : List Line). log_spelling (record log { lines = all }))
    (append_assoc log.lines (take i lines) (line ∷ []) ∙ ap (λ (more : List Line). log.lines ++ more) (sym (take_more lines i line low ∙ ap (λ (l : Line). take i lines ++ l ∷ []) (sym is))))

-- all lines are added
pub all_added : (log : Log) (lines : List Line) (i : ℕ) → length lines ≤ i → log_spelling (with_lines log (take i lines)) ≡ log_spelling (with_lines log lines)
all_added log lines i long = ap (λ (more : List Line). log_spelling (with_lines log more)) (take_all i lines long)

-- the text has the lines of one step more
pub written_more : (job : Job) (old new : Recording) (text after : List ℕ) (more : List Line) → (w : IsWriting job old text) → IsRecording job (w.lines ++ more) new
    → ((log : Log) → text ≡ log_spelling log → after ≡ log_spelling (with_lines log more)) → IsWriting job new after
written_more job old new text after more w running added = record {
  lines = w.lines ++ more;
  running = running;
  told = added (log_of job.harts 16 (start_runs job) w.lines) w.told;
}

-- the text is that of the whole run
pub written_whole : (job : Job) (old new : Recording) (text : List ℕ) → (w : IsWriting job old text) → IsRecordedWhole job w.lines new → IsRecordText job text
written_whole job old new text w whole = record {
  log = log_of job.harts 16 (start_runs job) w.lines;
  of_run = record { entries = whole.entries; run = whole.run; recorded = record { harts = refl; block = refl; pages = refl; lines = whole.recorded } };
  told = w.told;
}
