-- Playing one more line.
use Rattle.std.specs.Prelude.{Ok, Err, Result, OnOk}
use Rattle.std.proofs.Common.{◌≡◌, Option, Some, ℕ, suc, ◌≤◌, List, [], ◌∷◌, ◌++◌, length, sym, subst, arith}
use Rattle.std.specs.List.{cons_option}
use Rattle.std.proofs.lemmas.List.Elements.{filter_map-append}
use Rattle.pl_event.specs.declared.event.Event.{Event}
use Rattle.pl_event.specs.declared.log.Line.{Line}
use Rattle.pl_event.specs.declared.log.Log.{Log}
use Rattle.pl_event.specs.declared.log.PageRun.{PageRun}
use Rattle.pl_event.specs.declared.log.Record.{Record}
use Rattle.pl_event.specs.declared.log.Record.TheVariants as entry
use Rattle.pl_event.specs.Numbers.{events_of, event_of}
use Rattle.log_text.specs.declared.reader.Row.{Row}
use Rattle.log_text.specs.declared.stream.LogStream.{LogStream}
use Rattle.log_text.specs.declared.stream.Opening.{Opening}
use Rattle.log_text.specs.Parts.{IsValidRecord}
use Rattle.log_text.specs.Reading.{IsOnly, with_line, line_of}
use Rattle.log_text.specs.Streaming.{IsStreamed, StreamsRow, WasRead, IfNext, begun_log}
use Rattle.lifeguard.specs.Rules.{Rules}
use Rattle.replay_probes.specs.Meaning.{Meaning}
use Rattle.paralog_top.specs.inner.Playing.{HasRoom, IsPlaying, Play, WasPlayed}

few_of : (what : Record) (events : List Event) → length (cons_option (event_of what) events) ≤ suc (length events)
few_of (entry.Event event) events = omega arith
few_of (entry.Notice hart point) events = omega arith

-- no more events than lines
few_events : (lines : List Line) → length (events_of lines) ≤ length lines
few_events [] = omega arith
few_events (line ∷ lines) = omega (arith, few_of line.what (events_of lines), few_events lines)

-- what a success says may be said in other words
pub on_ok_as : {T E : Type 0} (r : Result T E) (P Q : Type 0) → (P → Q) → OnOk r P → OnOk r Q
on_ok_as (Ok value) P Q so holds = so holds
on_ok_as (Err error) P Q so holds = tt

-- what holds before the first event, under other names
pub begun : {G : Type 0} (rules : G → Rules) (P : Rules → List PageRun → Type 0) (guard first : G)
    (pages runs : List PageRun) → first ≡ guard → runs ≡ pages → P (rules guard) runs → P (rules first) pages
begun {G} rules P guard first pages runs same e holds =
    subst (λ (g : G). P (rules g) pages) (sym same) (subst (P (rules guard)) e holds)

-- a row that was given
pub given_row : (found : Option Row) (row : Row) (P : Row → Type 0) → found ≡ Some row → IfNext (Ok found) P → P row
given_row found row P is given = let F : Option Row → Type 0 = λ o. IfNext (Ok o) P in subst F is given

events-line : (lines : List Line) (line : Line)
    → events_of (lines ++ line ∷ []) ≡ events_of lines ++ cons_option (event_of line.what) []
events-line lines line = filter_map-append (λ l. event_of l.what) lines (line ∷ [])

module _ (harts limit : ℕ) (began now : Option (List ℕ)) where
  -- a record that was read is one of the run
  pub valid_row : (stream : LogStream) (log : Log) (row : Row) → log.harts ≡ harts
      → StreamsRow limit began now stream log row → IsValidRecord harts row.what
  valid_row stream log row same reads = subst (λ (h : ℕ). IsValidRecord h row.what) same reads.valid

  -- and there is room for its event
  pub has_room : (P : List Meaning → Play) (stream : LogStream) (log : Log) (meanings : List Meaning) (row : Row)
      → P meanings log.pages (events_of log.lines) → StreamsRow limit began now stream log row → HasRoom P
  has_room P stream log meanings row played reads = record {
    meanings = meanings;
    pages = log.pages;
    events = events_of log.lines;
    played = played;
    few = omega (arith, few_events log.lines, reads.room);
  }

  -- its event was played
  pub plays_row : (P : Play) (stream : LogStream) (log : Log) (row : Row) → log.harts ≡ harts
      → StreamsRow limit began now stream log row
      → P log.pages (events_of log.lines ++ cons_option (event_of row.what) [])
      → IsPlaying P harts limit began now stream
  plays_row P stream log row same reads played = record {
    log = with_line log (line_of stream.reader row);
    same = same;
    read = reads.read;
    played = subst (P log.pages) (sym (events-line log.lines (line_of stream.reader row))) played;
  }

  -- the log has ended
  pub plays_all : (P : Play) (log : Log) → log.harts ≡ harts → P log.pages (events_of log.lines)
      → WasRead limit began now (λ bytes. IsOnly bytes log) → WasPlayed P harts limit began now
  plays_all P log same played was = record {
    bytes = was.bytes;
    consumed = was.consumed;
    end = was.end;
    few = was.few;
    holds = record { log = log; same = same; only = was.holds; played = played };
  }

  -- before the first record
  pub begins : (P : Play) (opening : Opening) → harts ≡ opening.harts → P opening.pages []
      → IsStreamed limit began now opening.stream (begun_log opening) → IsPlaying P harts limit began now opening.stream
  begins P opening few played streamed =
      record { log = begun_log opening; same = sym few; read = streamed; played = played }
