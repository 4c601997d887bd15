-- Which lines are well-formed: each field is in its range, whatever comes before it.
use Rattle.std.specs.Prelude.{◌≡◌, ℕ, ◌^◌, ◌<◌, ◌≤◌, List, []}
use Rattle.std.specs.List.{AllByRecursion}
use Rattle.pl_base.specs.declared.layout.TheConstants.{MAX_CALL_BYTES, MAX_MAPPED_PAGES, MAX_RECORDS, MEMORY_BYTES}
use Rattle.pl_event.specs.Valid.{IsRegister}
use Rattle.pl_event.specs.declared.event.Kind.{Kind}
use Rattle.pl_event.specs.declared.event.Kind.TheVariants.{Ld, St, Op, Mv, Im, Br, Jr, Al, Fr, Bf, Mp, Um, Rd, Wr, Ex, Ft}
use Rattle.pl_event.specs.declared.log.Point.{Point}
use Rattle.pl_event.specs.declared.log.Record.{Record}
use Rattle.pl_event.specs.declared.log.Record.TheVariants as entry
use Rattle.log_grammar.specs.Spelling.{Entry, page, row}

-- an address of memory, and 1 to 65,536 bytes
abbrev pub IsBlock : ℕ → ℕ → Type 0
IsBlock addr len = (addr < MEMORY_BYTES) × (1 ≤ len) × (len ≤ MAX_CALL_BYTES)

-- a page, and 1 to 512 of them
abbrev pub IsPages : ℕ → ℕ → Type 0
IsPages first count = (first ≤ 4095) × (1 ≤ count) × (count ≤ MAX_MAPPED_PAGES)

-- the fields of each kind
abbrev pub HasFormFields : Kind → Type 0
HasFormFields (Ld width rd rb addr) = IsRegister rd × IsRegister rb × (addr < MEMORY_BYTES)
HasFormFields (St width rv rb addr) = IsRegister rv × IsRegister rb × (addr < MEMORY_BYTES)
HasFormFields (Op rd r1 r2) = IsRegister rd × IsRegister r1 × IsRegister r2
HasFormFields (Mv rd rs) = IsRegister rd × IsRegister rs
HasFormFields (Im rd) = IsRegister rd
HasFormFields (Br r1 r2) = IsRegister r1 × IsRegister r2
HasFormFields (Jr rd rs) = IsRegister rd × IsRegister rs
HasFormFields (Al addr len) = IsBlock addr len
HasFormFields (Fr addr len) = IsBlock addr len
HasFormFields (Bf addr) = addr < 2 ^ 32
HasFormFields (Mp first count) = IsPages first count
HasFormFields (Um first count) = IsPages first count
HasFormFields (Rd addr len) = IsBlock addr len
HasFormFields (Wr addr len) = IsBlock addr len
HasFormFields Ex = Unit {0}
HasFormFields (Ft cause addr) = addr < 2 ^ 32

-- a hart is one digit, and a record number is at most `most`
abbrev pub IsPointInForm : ℕ → Point → Type 0
IsPointInForm most point = (point.hart ≤ 9) × (1 ≤ point.number) × (point.number ≤ most)

abbrev pub ArePointsInForm : ℕ → List Point → Type 0
ArePointsInForm most points = AllByRecursion (IsPointInForm most) points

abbrev pub IsRecordInForm : ℕ → Record → Type 0
IsRecordInForm most (entry.Event event) = (event.hart ≤ 9) × HasFormFields event.kind
IsRecordInForm most (entry.Notice hart point) = (hart ≤ 9) × IsPointInForm most point

-- a notice has no arcs
abbrev pub MayHave : Record → List Point → Type 0
MayHave (entry.Event event) points = Unit {0}
MayHave (entry.Notice hart point) points = points ≡ []

-- a line with record numbers up to `most`
abbrev pub IsInForm : ℕ → Entry → Type 0
IsInForm most (page run) = IsPages run.first run.count
IsInForm most (row what points) = IsRecordInForm most what × ArePointsInForm most points × MayHave what points

-- the greatest record number of a log that is read
abbrev pub most_read : ℕ
most_read = MAX_RECORDS

-- the greatest record number that is written
abbrev pub most_written : ℕ
most_written = 4294967295
