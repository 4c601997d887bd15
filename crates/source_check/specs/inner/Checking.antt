-- How far a log was checked that is read from its source.
use Rattle.std.specs.Prelude.{ℕ, List, length, Option, None}
use Rattle.pl_event.specs.declared.log.Log.{Log}
use Rattle.log_check.specs.Answers.{NamesFirst}
use Rattle.log_check.specs.Checked.{GrowsTo, IsChecked}
use Rattle.log_check.specs.declared.order_check.OrderCheck.{OrderCheck}
use Rattle.log_check.specs.declared.order_check.UnorderedPair.{UnorderedPair}
use Rattle.log_text.specs.Reading.{IsOnly}
use Rattle.log_text.specs.Streaming.{IsStreamed, WasRead}
use Rattle.log_text.specs.declared.stream.LogStream.{LogStream}
use Rattle.source_check.specs.declared.source.Step.{Step}
use Rattle.source_check.specs.declared.source.Step.TheVariants.{More, Over, Found}
use Rattle.source_check.specs.Answers.{HasOrder}

-- the lines of the log were read from the source, and all of them are checked
pub record Follows (limit : ℕ) (began now : Option (List ℕ)) (stream : LogStream) (check : OrderCheck) (log : Log) :
    Type 0 where
  pub streamed : IsStreamed limit began now stream log
  pub checked : IsChecked check log (length log.lines)

-- those of a log
abbrev pub IsFollowed : ℕ → Option (List ℕ) → Option (List ℕ) → LogStream → OrderCheck → Type 0
IsFollowed limit began now stream check = (log : Log) × Follows limit began now stream check log

-- the lines of a log were read, whose first pair that is not ordered this is
pub record HasFound (limit : ℕ) (began now : Option (List ℕ)) (stream : LogStream) (pair : UnorderedPair) : Type 0 where
  pub log : Log
  pub streamed : IsStreamed limit began now stream log
  pub named : NamesFirst log pair.earlier pair.later

-- what one more line brings
abbrev pub Brings : ℕ → Option (List ℕ) → Option (List ℕ) → LogStream → OrderCheck → Step → Type 0
Brings limit began now stream check More = IsFollowed limit began now stream check
Brings limit began now stream check Over = WasRead limit began now (λ bytes. HasOrder bytes None)
Brings limit began now stream check (Found pair) = HasFound limit began now stream pair

-- the lines of the log and more were read
pub record IsGrown (limit : ℕ) (began now : Option (List ℕ)) (stream : LogStream) (log : Log) : Type 0 where
  pub whole : Log
  pub streamed : IsStreamed limit began now stream whole
  pub grows : GrowsTo log whole

-- the bytes are those of a log that begins with the lines of the log
pub record BeginsWith (log : Log) (bytes : List ℕ) : Type 0 where
  pub whole : Log
  pub only : IsOnly bytes whole
  pub grows : GrowsTo log whole
