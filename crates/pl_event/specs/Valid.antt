-- Which events a run can have.
use Rattle.std.specs.Prelude.{◌≡◌, ℕ, ◌+◌, ◌%◌, ◌^◌, ◌<◌, ◌≤◌}
use Rattle.pl_base.specs.declared.layout.TheConstants.{MAX_CALL_BYTES, MAX_MAPPED_PAGES, MEMORY_BYTES, PAGE_COUNT, REGISTERS}
use Rattle.pl_base.specs.Widths.{load_bytes, store_bytes}
use Rattle.pl_event.specs.declared.event.Kind.{Kind}
use Rattle.pl_event.specs.declared.event.Kind.TheVariants.{Ld, St, Op, Mv, Im, Br, Jr, Al, Fr, Bf, Mp, Um, Rd, Wr, Ex, Ft}
use Rattle.pl_event.specs.declared.event.Event.{Event}
use Rattle.pl_event.specs.declared.log.Record.{Record}
use Rattle.pl_event.specs.declared.log.Record.TheVariants as entry

-- one of 32 registers, or one of the two hidden ones
abbrev pub IsRegister : ℕ → Type 0
IsRegister register = register < REGISTERS

-- an address of memory that is a multiple of the width
abbrev pub IsAligned : ℕ → ℕ → Type 0
IsAligned addr width = (addr < MEMORY_BYTES) × (addr % width ≡ 0)

-- an address of 32 bits, which need not be one of memory
abbrev pub IsWord : ℕ → Type 0
IsWord addr = addr < 2 ^ 32

-- 1 to 65,536 bytes of memory
abbrev pub IsByteRange : ℕ → ℕ → Type 0
IsByteRange addr len = (addr < MEMORY_BYTES) × (1 ≤ len) × (len ≤ MAX_CALL_BYTES) × (addr + len ≤ MEMORY_BYTES)

-- 1 to 512 pages of memory
abbrev pub IsPageRange : ℕ → ℕ → Type 0
IsPageRange page count = (page < PAGE_COUNT) × (1 ≤ count) × (count ≤ MAX_MAPPED_PAGES) × (page + count ≤ PAGE_COUNT)

-- each field is in its range
abbrev pub HasValidFields : Kind → Type 0
HasValidFields (Ld width rd rb addr) = IsRegister rd × IsRegister rb × IsAligned addr (load_bytes width)
HasValidFields (St width rv rb addr) = IsRegister rv × IsRegister rb × IsAligned addr (store_bytes width)
HasValidFields (Op rd r1 r2) = IsRegister rd × IsRegister r1 × IsRegister r2
HasValidFields (Mv rd rs) = IsRegister rd × IsRegister rs
HasValidFields (Im rd) = IsRegister rd
HasValidFields (Br r1 r2) = IsRegister r1 × IsRegister r2
HasValidFields (Jr rd rs) = IsRegister rd × IsRegister rs
HasValidFields (Al addr len) = IsByteRange addr len
HasValidFields (Fr addr len) = IsByteRange addr len
HasValidFields (Bf addr) = IsWord addr
HasValidFields (Mp page count) = IsPageRange page count
HasValidFields (Um page count) = IsPageRange page count
HasValidFields (Rd addr len) = IsByteRange addr len
HasValidFields (Wr addr len) = IsByteRange addr len
HasValidFields Ex = Unit {0}
HasValidFields (Ft cause addr) = IsWord addr

-- an event of a run of so many harts
abbrev pub IsValidEvent : Event → ℕ → Type 0
IsValidEvent event harts = (event.hart < harts) × HasValidFields event.kind

-- the event of a record, if it has one, is an event of a run of so many harts
abbrev pub HasValidEvent : ℕ → Record → Type 0
HasValidEvent harts (entry.Event event) = IsValidEvent event harts
HasValidEvent harts (entry.Notice hart point) = Unit {0}
