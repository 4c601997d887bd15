-- A log that is recorded anew, line by line.
use Rattle.std.proofs.Common.{◌≡◌, ℕ, List, [], ◌∷◌, ◌++◌, append-nil, Option, refl, sym, ap, ◌∙◌, subst, arith}
use Rattle.std.specs.Prelude.{string_bytes}
use Rattle.std.specs.List.{cons_option}
use Rattle.std.proofs.lemmas.List.Elements.{filter_map-append}
use Rattle.pl_event.specs.declared.event.Event.{Event}
use Rattle.pl_event.specs.declared.log.Line.{Line}
use Rattle.pl_event.specs.declared.log.Log.{Log}
use Rattle.pl_event.specs.declared.log.Point.{Point}
use Rattle.pl_event.specs.declared.log.Record.{Record}
use Rattle.pl_event.specs.declared.log.Record.TheVariants as entry
use Rattle.pl_event.specs.Numbers.{event_of, events_of}
use Rattle.pl_event.specs.Valid.{IsValidEvent}
use Rattle.pl_event.proofs.EventLemmas.{few_events}
use Rattle.log_grammar.specs.Spelling.{log_spelling}
use Rattle.log_text.specs.declared.reader.Row.{Row}
use Rattle.log_text.specs.declared.stream.LogStream.{LogStream}
use Rattle.log_text.specs.declared.stream.Opening.{Opening}
use Rattle.log_text.specs.Reading.{IsOnly, line_of, with_line}
use Rattle.log_text.specs.Streaming.{IsStreamed, StreamsRow, WasRead, begun_log}
use Rattle.log_text.specs.Writing.{log_of}
use Rattle.arc_capture.specs.Recorded.{AreRecorded}
use Rattle.arc_capture.specs.Recorder.{HasRecorded, MayFeed}
use Rattle.run_record.specs.declared.upgrade.Upgrade.{Upgrade}
use Rattle.run_record.specs.Texts.{IsUpgradeOf}
use Rattle.run_record.specs.Upgrading.{IsUpgraded, IsUpgrading, MayTake}
use Rattle.run_record.specs.Writing.{with_lines}

-- the events of one line more
events_with : (lines : List Line) (line : Line) (what : Record) → line.what ≡ what → events_of (lines ++ line ∷ []) ≡ events_of lines ++ cons_option (event_of what) []
events_with lines line what is = filter_map-append (λ (l : Line). event_of l.what) lines (line ∷ []) ∙ ap (λ (w : Record). events_of lines ++ cons_option (event_of w) []) is

module _ (log : Log) (old : Upgrade) (event : Event) (may : MayTake log old (entry.Event event)) where
  -- the event of a line may be the next one
  pub may_feed : MayFeed old.recorder.placer old.recorder.marker 4 (events_of log.lines) may.upgraded.lines event
  may_feed = record {
    has = may.upgraded.has;
    few = omega (arith, may.room, few_events log.lines);
    valid = subst (IsValidEvent event) (sym may.upgraded.harts) may.valid;
  }

  -- its lines were written
  pub event_written : (line : Line) (new : Upgrade) (more : List Line) → line.what ≡ entry.Event event → new.recorder.placer.harts ≡ old.recorder.placer.harts
      → HasRecorded new.recorder.placer new.recorder.marker 4 (events_of log.lines ++ event ∷ []) (may.upgraded.lines ++ more)
      → ((l : Log) → string_bytes old.text ≡ log_spelling l → string_bytes new.text ≡ log_spelling (with_lines l more)) → IsUpgraded (with_line log line) new
  event_written line new more is harts has added = record {
    lines = may.upgraded.lines ++ more;
    harts = harts ∙ may.upgraded.harts;
    has =
        subst (λ (es : List Event). HasRecorded new.recorder.placer new.recorder.marker 4 es (may.upgraded.lines ++ more)) (sym (events_with log.lines line (entry.Event event) is)) has;
    told = added (log_of log.harts 4 log.pages may.upgraded.lines) may.upgraded.told;
  }

-- a notice was passed over
pub notice_passed : (log : Log) (upgrade : Upgrade) (line : Line) (hart : ℕ) (of : Point) → line.what ≡ entry.Notice hart of → IsUpgraded log upgrade → IsUpgraded (with_line log line) upgrade
notice_passed log upgrade line hart of is upgraded = record {
  lines = upgraded.lines;
  harts = upgraded.harts;
  has =
      subst (λ (es : List Event). HasRecorded upgrade.recorder.placer upgrade.recorder.marker 4 es upgraded.lines)
      (sym (events_with log.lines line (entry.Notice hart of) is ∙ append-nil (events_of log.lines))) upgraded.has;
  told = upgraded.told;
}

-- no line was read
pub begun : (limit : ℕ) (began now : Option (List ℕ)) (opening : Opening) (upgrade : Upgrade) → IsStreamed limit began now opening.stream (begun_log opening) → IsUpgraded (begun_log opening) upgrade
    → IsUpgrading limit began now opening.stream upgrade
begun limit began now opening upgrade streamed upgraded = record { log = begun_log opening; streamed = streamed; upgraded = upgraded }

-- the record of a row that was read may be taken
pub may_take : (limit : ℕ) (began now : Option (List ℕ)) (stream : LogStream) (log : Log) (row : Row) (upgrade : Upgrade) → StreamsRow limit began now stream log row → IsUpgraded log upgrade → MayTake log upgrade row.what
may_take limit began now stream log row upgrade reads upgraded = record { upgraded = upgraded; room = reads.room; valid = reads.valid }

-- the row was read and its record taken
pub row_taken : (limit : ℕ) (began now : Option (List ℕ)) (stream : LogStream) (log : Log) (row : Row) (new : Upgrade) → StreamsRow limit began now stream log row → IsUpgraded (with_line log (line_of stream.reader row)) new
    → IsUpgrading limit began now stream new
row_taken limit began now stream log row new reads upgraded = record { log = with_line log (line_of stream.reader row); streamed = reads.read; upgraded = upgraded }

-- the text is that of the whole log
pub upgraded_whole : (limit : ℕ) (began now : Option (List ℕ)) (log : Log) (upgrade : Upgrade) → (upgraded : IsUpgraded log upgrade) → AreRecorded upgrade.recorder.placer.harts 4 (events_of log.lines) upgraded.lines
    → WasRead limit began now (λ bytes. IsOnly bytes log) → WasRead limit began now (λ bytes. IsUpgradeOf bytes (string_bytes upgrade.text))
upgraded_whole limit began now log upgrade upgraded recorded was = record {
  bytes = was.bytes;
  consumed = was.consumed;
  end = was.end;
  few = was.few;
  holds = record {
    log = log;
    read = was.holds;
    made = record {
      made = log_of log.harts 4 log.pages upgraded.lines;
      recorded = record {
        harts = refl;
        block = refl;
        pages = refl;
        lines = subst (λ (h : ℕ). AreRecorded h 4 (events_of log.lines) upgraded.lines) upgraded.harts recorded;
      };
      told = upgraded.told;
    };
  };
}
