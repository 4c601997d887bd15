-- How far the bytes of a log were read.
use Rattle.std.specs.Prelude.{◌≡◌, ℕ, ◌+◌, ◌^◌, ◌<◌, ◌≤◌, List, [], ◌∷◌, ◌++◌, length, replicate, Bool, true, false, Option, Some, None, All, Result, Ok, Err}
use Rattle.pl_base.specs.LineBuffer.{ends_line}
use Rattle.pl_event.specs.declared.log.Line.{Line}
use Rattle.pl_event.specs.declared.log.Log.{Log}
use Rattle.pl_event.specs.declared.log.PageRun.{PageRun}
use Rattle.log_text.specs.declared.cause.LogFault.{LogFault}
use Rattle.log_grammar.specs.declared.points.ArcList.{ArcList}
use Rattle.log_text.specs.declared.reader.LogReader.{LogReader}
use Rattle.log_text.specs.declared.reader.Header.{Header}
use Rattle.log_text.specs.declared.reader.Row.{Row}
use Rattle.std.specs.List.{list_any}
use Rattle.pl_base.specs.declared.layout.TheConstants.{MAX_RECORDS}
use Rattle.log_grammar.specs.Arcs.{arcs_in}
use Rattle.log_grammar.specs.Begins.{BeginsWithNoPage}
use Rattle.log_grammar.specs.Form.{most_read}
use Rattle.log_text.specs.Parts.{IsValidLine}
use Rattle.log_grammar.specs.Spelling.{Entry, header_text, line_text, entries_text, entries_of}
use Rattle.log_text.specs.Tally.{Keeps}
use Rattle.log_text.specs.WellFormed.{is_row, IsLawful, IsLogText, IsFirstFault, rules_in_order}
use Rattle.pl_event.specs.Runs.{IsBlockSize}

-- another log of the bytes has the same lines so far
pub record IsAlike (harts block : ℕ) (before : List Entry) (rest : List ℕ) (other : Log) : Type 0 where
  pub same : other.harts ≡ harts
  pub size : other.block ≡ block
  pub tail : List Entry
  pub parted : entries_of other ≡ before ++ tail
  pub left : rest ≡ entries_text tail

-- the lines of the log follow its header, the rest follows them, and no other log of the bytes begins otherwise
pub record IsRead (bytes rest : List ℕ) (log : Log) : Type 0 where
  pub some : 1 ≤ log.harts
  pub few : log.harts ≤ 8
  pub size : IsBlockSize log.block
  pub eight : All (λ line. length line.arcs ≡ 8) log.lines
  pub spelled : bytes ≡ line_text (header_text log.harts log.block) ++ entries_text (entries_of log) ++ rest
  pub lawful : IsLawful rules_in_order most_read log.harts (entries_of log)
  pub only : (other : Log) → IsLogText bytes other → IsAlike log.harts log.block (entries_of log) rest other

-- the reader has read the lines of the log and refused none, and the rest follows them
pub record IsReadBy (reader : LogReader) (bytes rest : List ℕ) (log : Log) : Type 0 where
  pub read : IsRead bytes rest log
  pub keeps : Keeps reader.tally (entries_of log)
  pub harts : reader.tally.harts ≡ log.harts
  pub line : reader.line ≡ length (entries_of log) + 2
  pub sound : reader.refused ≡ None

-- and all runs of pages
pub record HasRead (reader : LogReader) (bytes rest : List ℕ) (log : Log) : Type 0 where
  pub by : IsReadBy reader bytes rest log
  pub begun : list_any is_row (entries_of log) ≡ false → BeginsWithNoPage rest

-- the text holds the next line whole: a line feed ends the text, or nothing is to come after it
pub data HoldsLine (text later : List ℕ) : Type 0 where
  whole_lines : 0 < length text → ends_line text ≡ true → HoldsLine text later
  last_bytes : later ≡ [] → HoldsLine text later

-- and so few bytes come before what is to come that their lines can be counted
pub record HoldsNext (bytes text later : List ℕ) : Type 0 where
  pub line : HoldsLine text later
  pub few : length bytes < 2 ^ 31 + length later

-- the log of a header, with no line after it yet
abbrev pub opened : Header → Log
opened header = record { harts = header.harts; block = header.block; pages = []; lines = [] }

-- the line of the row that the reader has read last
abbrev pub arcs_of : Bool → ArcList → List (Option ℕ)
arcs_of false list = replicate 8 None
arcs_of true list = arcs_in list.numbers

abbrev pub line_of : LogReader → Row → Line
line_of reader row = record { what = row.what; arcs = arcs_of row.has_arcs reader.arcs }

-- one more line
abbrev pub with_line : Log → Line → Log
with_line log line = record log { lines = log.lines ++ line ∷ [] }

-- one more run of pages
abbrev pub with_pages : Log → PageRun → Log
with_pages log run = record log { pages = log.pages ++ run ∷ [] }

-- the log of the lines so far and that one, which the reader has read then
pub record ReadsRow (reader : LogReader) (bytes rest : List ℕ) (log : Log) (row : Row) : Type 0 where
  pub read : HasRead reader bytes rest (with_line log (line_of reader row))
  pub valid : IsValidLine log.harts (line_of reader row)
  pub room : length log.lines < MAX_RECORDS

-- the bytes are the log's, and no other's
pub record IsOnly (bytes : List ℕ) (log : Log) : Type 0 where
  pub text : IsLogText bytes log
  pub one : (other : Log) → IsLogText bytes other → other ≡ log

-- the fault is the first one, and no log has these bytes
pub record IsNoLog (bytes : List ℕ) (fault : LogFault) : Type 0 where
  pub first : IsFirstFault bytes fault
  pub none : (log : Log) → IsLogText bytes log → ⊥

-- what holds of a line that was found, and where none was
abbrev pub IfFound : {T : Type 0} → Result (Option T) LogFault → (T → Type 0) → Type 0
IfFound (Ok (Some line)) P = P line
IfFound (Ok None) P = Unit {0}
IfFound (Err fault) P = Unit {0}

abbrev pub IfMissed : {T : Type 0} → Result (Option T) LogFault → Type 0 → Type 0
IfMissed (Ok (Some line)) P = Unit {0}
IfMissed (Ok None) P = P
IfMissed (Err fault) P = Unit {0}
