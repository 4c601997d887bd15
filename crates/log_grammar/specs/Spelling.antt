-- The text of a log: each log has one spelling.
use Rattle.std.specs.Prelude.{ℕ, suc, ◌==◌, false, List, [], ◌∷◌, ◌++◌, codes, map, Option, Some, None, if◌then◌else◌}
use Rattle.std.specs.List.{join_with_byte, flat_map}
use Rattle.std.specs.Fmt.{decimal, digits}
use Rattle.pl_base.specs.declared.widths.LoadWidth.{LoadWidth}
use Rattle.pl_base.specs.declared.widths.LoadWidth.TheVariants as load
use Rattle.pl_base.specs.declared.widths.StoreWidth.{StoreWidth}
use Rattle.pl_base.specs.declared.widths.StoreWidth.TheVariants as store
use Rattle.pl_base.specs.declared.widths.FaultCause.{FaultCause}
use Rattle.pl_base.specs.declared.widths.FaultCause.TheVariants as fault
use Rattle.pl_event.specs.declared.event.Kind.{Kind}
use Rattle.pl_event.specs.declared.event.Kind.TheVariants as kind
use Rattle.pl_event.specs.declared.log.Point.{Point}
use Rattle.pl_event.specs.declared.log.Record.{Record}
use Rattle.pl_event.specs.declared.log.Record.TheVariants as entry
use Rattle.pl_event.specs.declared.log.Line.{Line}
use Rattle.pl_event.specs.declared.log.Log.{Log}
use Rattle.pl_event.specs.declared.log.PageKind.{PageKind}
use Rattle.pl_event.specs.declared.log.PageKind.TheVariants as page_kind
use Rattle.pl_event.specs.declared.log.PageRun.{PageRun}

abbrev pub hex : ℕ → List ℕ
hex n = digits 16 false n

abbrev pub load_word : LoadWidth → List ℕ
load_word load.B = codes "b"
load_word load.H = codes "h"
load_word load.W = codes "w"
load_word load.Bu = codes "bu"
load_word load.Hu = codes "hu"

abbrev pub store_word : StoreWidth → List ℕ
store_word store.B = codes "b"
store_word store.H = codes "h"
store_word store.W = codes "w"

abbrev pub fault_word : FaultCause → List ℕ
fault_word fault.Pc = codes "pc"
fault_word fault.Illegal = codes "illegal"
fault_word fault.Align = codes "align"
fault_word fault.Unmapped = codes "unmapped"
fault_word fault.ReadOnly = codes "readonly"

abbrev pub page_word : PageKind → List ℕ
page_word page_kind.Data = codes "data"
page_word page_kind.Heap = codes "heap"
page_word page_kind.Stack = codes "stack"

-- the words of a kind of event
abbrev pub kind_words : Kind → List (List ℕ)
kind_words (kind.Ld width rd rb addr) = codes "ld" ∷ load_word width ∷ decimal rd ∷ decimal rb ∷ hex addr ∷ []
kind_words (kind.St width rv rb addr) = codes "st" ∷ store_word width ∷ decimal rv ∷ decimal rb ∷ hex addr ∷ []
kind_words (kind.Op rd r1 r2) = codes "op" ∷ decimal rd ∷ decimal r1 ∷ decimal r2 ∷ []
kind_words (kind.Mv rd rs) = codes "mv" ∷ decimal rd ∷ decimal rs ∷ []
kind_words (kind.Im rd) = codes "im" ∷ decimal rd ∷ []
kind_words (kind.Br r1 r2) = codes "br" ∷ decimal r1 ∷ decimal r2 ∷ []
kind_words (kind.Jr rd rs) = codes "jr" ∷ decimal rd ∷ decimal rs ∷ []
kind_words (kind.Al addr len) = codes "al" ∷ hex addr ∷ decimal len ∷ []
kind_words (kind.Fr addr len) = codes "fr" ∷ hex addr ∷ decimal len ∷ []
kind_words (kind.Bf addr) = codes "bf" ∷ hex addr ∷ []
kind_words (kind.Mp page count) = codes "mp" ∷ decimal page ∷ decimal count ∷ []
kind_words (kind.Um page count) = codes "um" ∷ decimal page ∷ decimal count ∷ []
kind_words (kind.Rd addr len) = codes "rd" ∷ hex addr ∷ decimal len ∷ []
kind_words (kind.Wr addr len) = codes "wr" ∷ hex addr ∷ decimal len ∷ []
kind_words kind.Ex = codes "ex" ∷ []
kind_words (kind.Ft cause addr) = codes "ft" ∷ fault_word cause ∷ hex addr ∷ []

-- a hart and the number of a record of it
abbrev pub point_word : Point → List ℕ
point_word point = decimal point.hart ++ 58 ∷ decimal point.number

abbrev pub record_words : Record → List (List ℕ)
record_words (entry.Event event) = (104 ∷ decimal event.hart) ∷ kind_words event.kind
record_words (entry.Notice hart point) = (104 ∷ decimal hart) ∷ codes "!" ∷ point_word point ∷ []

-- the arcs of a record, after it
abbrev pub arc_words : List Point → List (List ℕ)
arc_words [] = []
arc_words (point ∷ points) = codes "<" ∷ join_with_byte 44 (map point_word (point ∷ points)) ∷ []

-- a line after the header
pub data Entry : Type 0 where
  page : PageRun → Entry
  row : Record → List Point → Entry

abbrev pub entry_words : Entry → List (List ℕ)
entry_words (page run) = codes "page" ∷ decimal run.first ∷ decimal run.count ∷ page_word run.kind ∷ []
entry_words (row what points) = record_words what ++ arc_words points

-- words are one blank apart
abbrev pub entry_text : Entry → List ℕ
entry_text e = join_with_byte 32 (entry_words e)

-- version 1 has blocks of 16 bytes, version 2 of 4
abbrev pub version_of : ℕ → ℕ
version_of block = if block == 16 then 1 else 2

abbrev pub header_text : ℕ → ℕ → List ℕ
header_text harts block =
    codes "PLOG " ++ decimal (version_of block) ++ codes " harts " ++ decimal harts ++ codes " block " ++ decimal block

-- each line ends with a line feed
abbrev pub line_text : List ℕ → List ℕ
line_text text = text ++ 10 ∷ []

abbrev pub entries_text : List Entry → List ℕ
entries_text entries = flat_map (λ e. line_text (entry_text e)) entries

-- the arcs that are set, by rising hart
abbrev pub points_from : ℕ → List (Option ℕ) → List Point
points_from hart [] = []
points_from hart (None ∷ numbers) = points_from (suc hart) numbers
points_from hart (Some number ∷ numbers) = record { hart = hart; number = number } ∷ points_from (suc hart) numbers

abbrev pub row_of : Line → Entry
row_of line = row line.what (points_from 0 line.arcs)

-- the lines of a log after its header
abbrev pub entries_of : Log → List Entry
entries_of log = map page log.pages ++ map row_of log.lines

abbrev pub log_spelling : Log → List ℕ
log_spelling log = line_text (header_text log.harts log.block) ++ entries_text (entries_of log)
