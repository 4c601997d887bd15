-- A log that is recorded anew while it is read.
use Rattle.std.specs.Prelude.{◌≡◌, ℕ, ◌<◌, List, Option, length, string_bytes}
use Rattle.pl_base.specs.declared.layout.TheConstants.{MAX_RECORDS, SMALL_BLOCK_BYTES}
use Rattle.pl_event.specs.declared.log.Line.{Line}
use Rattle.pl_event.specs.declared.log.Log.{Log}
use Rattle.pl_event.specs.declared.log.Record.{Record}
use Rattle.pl_event.specs.Numbers.{events_of}
use Rattle.log_grammar.specs.Spelling.{log_spelling}
use Rattle.log_text.specs.declared.stream.LogStream.{LogStream}
use Rattle.log_text.specs.Parts.{IsValidRecord}
use Rattle.log_text.specs.Streaming.{IsStreamed}
use Rattle.log_text.specs.Writing.{log_of}
use Rattle.arc_capture.specs.Recorder.{HasRecorded}
use Rattle.run_record.specs.declared.upgrade.Upgrade.{Upgrade}

-- the text is that of the lines which the recorder has made of the events of the log
pub record IsUpgraded (log : Log) (upgrade : Upgrade) : Type 0 where
  pub lines : List Line
  pub harts : upgrade.recorder.placer.harts ≡ log.harts
  pub has : HasRecorded upgrade.recorder.placer upgrade.recorder.marker SMALL_BLOCK_BYTES (events_of log.lines) lines
  pub told : string_bytes upgrade.text ≡ log_spelling (log_of log.harts SMALL_BLOCK_BYTES log.pages lines)

-- the record may be the next one of the log
pub record MayTake (log : Log) (upgrade : Upgrade) (what : Record) : Type 0 where
  pub upgraded : IsUpgraded log upgrade
  pub room : length log.lines < MAX_RECORDS
  pub valid : IsValidRecord log.harts what

-- some lines of a log were read from a source that had these bytes, and the text is that of their events
pub record IsUpgrading (limit : ℕ) (began now : Option (List ℕ)) (stream : LogStream) (upgrade : Upgrade) :
    Type 0 where
  pub log : Log
  pub streamed : IsStreamed limit began now stream log
  pub upgraded : IsUpgraded log upgrade
