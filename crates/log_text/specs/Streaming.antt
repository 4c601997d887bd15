-- How far a log was read from its source, of which only a window is at hand.
use Rattle.std.specs.Prelude.{◌≡◌, ◌⊎◌, ℕ, ◌+◌, ◌^◌, ◌<◌, ◌≤◌, true, false, List, [], ◌++◌, length, Option, Some, None, Result, Ok, Err}
use Rattle.std.specs.Io.KnownBytes.{Consumes, IsAtEnd}
use Rattle.pl_base.specs.declared.layout.TheConstants.{MAX_RECORDS}
use Rattle.pl_base.specs.declared.loops.ReadEnd.TheVariants as read_end
use Rattle.pl_base.specs.Causes.{Rose}
use Rattle.pl_base.specs.Fronts.{TakesFront}
use Rattle.pl_base.specs.LineBuffer.{Window, ends_line}
use Rattle.pl_event.specs.declared.log.Log.{Log}
use Rattle.log_text.specs.declared.cause.LogFault.{LogFault}
use Rattle.log_text.specs.declared.reader.Row.{Row}
use Rattle.log_text.specs.declared.stream.Opening.{Opening}
use Rattle.log_text.specs.declared.stream.LogEnd.{LogEnd}
use Rattle.log_text.specs.declared.stream.LogEnd.TheVariants as log_end
use Rattle.log_text.specs.declared.stream.LogStream.{LogStream}
use Rattle.log_text.specs.Parts.{IsValidLine}
use Rattle.log_text.specs.Reading.{IsReadBy, HasRead, IsNoLog, line_of, with_line}

-- R holds of the bytes of the source and of those of them that come after the lines
-- that were read, whatever is to come
pub record Streams (limit : ℕ) (began now : Option (List ℕ)) (window : Window) (R : List ℕ → List ℕ → Type 0) :
    Type 0 where
  pub small : limit < 2 ^ 31
  pub taken : List ℕ
  pub consumed : Consumes began now taken
  pub counted : window.spare + length taken ≡ limit
  pub lines : window.ended ≡ false → ends_line window.front ≡ true
  pub ended : window.ended ≡ true → (window.begun ≡ []) × IsAtEnd now
  pub reads : (later : List ℕ) → (window.ended ≡ true → later ≡ []) →
      R (taken ++ later) (window.front ++ (window.begun ++ later))

-- the lines of the log were read from a source that had these bytes
abbrev pub IsBegun : ℕ → Option (List ℕ) → Option (List ℕ) → LogStream → Log → Type 0
IsBegun limit began now stream log =
    Streams limit began now stream.buffer (λ bytes rest. IsReadBy stream.reader bytes rest log)

-- and all runs of pages
abbrev pub IsStreamed : ℕ → Option (List ℕ) → Option (List ℕ) → LogStream → Log → Type 0
IsStreamed limit began now stream log =
    Streams limit began now stream.buffer (λ bytes rest. HasRead stream.reader bytes rest log)

-- the log of the lines so far and that one
pub record StreamsRow (limit : ℕ) (began now : Option (List ℕ)) (stream : LogStream) (log : Log) (row : Row) :
    Type 0 where
  pub read : IsStreamed limit began now stream (with_line log (line_of stream.reader row))
  pub valid : IsValidLine log.harts (line_of stream.reader row)
  pub room : length log.lines < MAX_RECORDS

-- the source was read to its end, within the limit, and P holds of its bytes
pub record WasRead (limit : ℕ) (began now : Option (List ℕ)) (P : List ℕ → Type 0) : Type 0 where
  pub bytes : List ℕ
  pub consumed : Consumes began now bytes
  pub end : IsAtEnd now
  pub few : length bytes ≤ limit
  pub holds : P bytes

-- why reading ended: the bytes are no log, or reading stopped before the end
abbrev pub IsEnd : ℕ → Option (List ℕ) → Option (List ℕ) → LogEnd → Type 0
IsEnd limit began now (log_end.Fault fault) = WasRead limit began now (λ bytes. IsNoLog bytes fault)
IsEnd limit began now (log_end.Read end) = TakesFront end began now limit

-- the stream has told this fault of its log, whose source was read to its end
abbrev pub HasTold : LogStream → LogFault → Type 0
HasTold stream fault = (stream.reader.refused ≡ Some fault) × (stream.buffer.ended ≡ true)

-- an end of reading leaves the count of faults as it was, but where a read failed
abbrev pub IsCaused : ℕ → ℕ → LogEnd → Type 0
IsCaused before now (log_end.Fault fault) = now ≡ before
IsCaused before now (log_end.Read read_end.Fault) = Rose before now
IsCaused before now (log_end.Read read_end.TooLong) = now ≡ before
IsCaused before now (log_end.Read read_end.NoMemory) = now ≡ before

-- a success leaves it as it was too
abbrev pub KeepsFaults : {T : Type 0} → ℕ → ℕ → Result T LogEnd → Type 0
KeepsFaults before now (Ok value) = now ≡ before
KeepsFaults before now (Err end) = IsCaused before now end

-- a line is at hand, or the source is at its end
abbrev pub IsReady : Window → Type 0
IsReady window = (0 < length window.front) ⊎ (window.ended ≡ true)

-- how many bytes can still be passed
abbrev pub bytes_ahead : Window → ℕ
bytes_ahead window = window.spare + length window.front + length window.begun

-- what holds of a line that was found, and at the end
abbrev pub IfNext : {T : Type 0} → Result (Option T) LogEnd → (T → Type 0) → Type 0
IfNext (Ok (Some line)) P = P line
IfNext (Ok None) P = Unit {0}
IfNext (Err end) P = Unit {0}

abbrev pub IfOver : {T : Type 0} → Result (Option T) LogEnd → Type 0 → Type 0
IfOver (Ok (Some line)) P = Unit {0}
IfOver (Ok None) P = P
IfOver (Err end) P = Unit {0}

-- the log of a header and its pages, with no record yet
abbrev pub begun_log : Opening → Log
begun_log opening = record { harts = opening.harts; block = opening.block; pages = opening.pages; lines = [] }
