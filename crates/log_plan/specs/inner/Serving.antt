-- Which words the operations of a record are on, where frames serve pages.
use Rattle.std.specs.Prelude.{◌≡◌, ◌≢◌, ℕ, suc, ◌+◌, ◌/◌, ◌%◌, ◌<◌, ◌⊎◌, Bool, true, false, IsTrue, List, length, Some, slice_get}
use mathlib.Core.Option.{some}
use lib.ListN.{get_elem?}
use Rattle.pl_base.specs.declared.layout.TheConstants.{BLOCK_BYTES, MEMORY_BYTES, PAGE_BYTES, PAGE_COUNT, SMALL_BLOCK_BYTES}
use Rattle.pl_event.specs.declared.event.Event.{Event}
use Rattle.pl_event.specs.declared.event.Kind.{Kind}
use Rattle.pl_event.specs.declared.event.Kind.TheVariants.{Ld, St, Op, Mv, Im, Br, Jr, Al, Fr, Bf, Mp, Um, Rd, Wr, Ex, Ft}
use Rattle.pl_event.specs.declared.log.Line.{Line}
use Rattle.pl_event.specs.declared.log.Record.{Record}
use Rattle.pl_event.specs.declared.log.Record.TheVariants as entry
use Rattle.pl_event.specs.Alerts.{is_alert_kind}
use Rattle.pl_event.specs.Conflicts.{access_of}
use Rattle.pl_event.specs.Numbers.{hart_of}
use Rattle.pl_event.specs.Records.{records_before}
use Rattle.order_core.specs.declared.course.Op as course
use Rattle.order_core.specs.Lanes.{covers}
use Rattle.shadow_frames.specs.Words.{directory_word, frame_word}

-- pages are mapped or unmapped
abbrev pub is_mapping : Kind → Bool
is_mapping (Ld width rd rb addr) = false
is_mapping (St width rv rb addr) = false
is_mapping (Op rd r1 r2) = false
is_mapping (Mv rd rs) = false
is_mapping (Im rd) = false
is_mapping (Br r1 r2) = false
is_mapping (Jr rd rs) = false
is_mapping (Al addr len) = false
is_mapping (Fr addr len) = false
is_mapping (Bf addr) = false
is_mapping (Mp page count) = true
is_mapping (Um page count) = true
is_mapping (Rd addr len) = false
is_mapping (Wr addr len) = false
is_mapping Ex = false
is_mapping (Ft cause addr) = false

abbrev pub maps : Record → Bool
maps (entry.Event event) = is_mapping event.kind
maps (entry.Notice hart point) = false

-- at each position of the log, for each page: 0, or the number of the frame that serves it plus 1. A page's frame
-- changes where pages are mapped or unmapped alone, and no frame serves two pages
pub record IsServing (lines : List Line) (frame : ℕ → ℕ → ℕ) : Type 0 where
  pub same : (x p : ℕ) (l : Line) → get_elem? lines x ≡ some l → maps l.what ≡ false → p < PAGE_COUNT
      → frame (suc x) p ≡ frame x p
  pub apart : (x p q : ℕ) → x < length lines → p < PAGE_COUNT → q < PAGE_COUNT → frame x p ≢ 0
      → frame x p ≡ frame x q → p ≡ q

-- the operation is on the shadow word of the address, and where blocks have 4 bytes on its lane alone
pub record IsOnShadow (size : ℕ) (frame : ℕ → ℕ) (addr : ℕ) (o : course.Op) : Type 0 where
  pub number : ℕ
  pub serves : frame (addr / PAGE_BYTES) ≡ suc number
  pub word : o.word ≡ frame_word number + addr % PAGE_BYTES / BLOCK_BYTES
  pub lane : size ≡ SMALL_BLOCK_BYTES → (j : ℕ) → covers o.lanes j ≡ true
      → j ≡ addr % BLOCK_BYTES / SMALL_BLOCK_BYTES

-- a read of the directory word of the address's page, or on the shadow word of the address
abbrev pub IsOnAddress : ℕ → (ℕ → ℕ) → ℕ → course.Op → Type 0
IsOnAddress size frame addr o = ((o.word ≡ directory_word (addr / PAGE_BYTES)) × (o.write ≡ false))
    ⊎ IsOnShadow size frame addr o

-- the operation is one of a load or a store
pub record IsOfAccess (size : ℕ) (frame : ℕ → ℕ) (kind : Kind) (o : course.Op) : Type 0 where
  pub addr : ℕ
  pub store : Bool
  pub access : access_of size kind ≡ Some (record { block = addr / size; store = store })
  pub low : addr < MEMORY_BYTES
  pub reads : store ≡ false → o.write ≡ false
  pub word : IsOnAddress size frame addr o

-- of the words of an alert event's operations nothing is said
abbrev pub Touches : ℕ → (ℕ → ℕ) → Kind → course.Op → Type 0
Touches size frame kind o = IsTrue (is_alert_kind kind) ⊎ IsOfAccess size frame kind o

-- each operation of each record is such a one, and a notice has none
abbrev pub AreTouching : ℕ → List Line → (ℕ → ℕ → ℕ) → (ℕ → ℕ → List course.Op) → Type 0
AreTouching size lines frame ops = (i y : ℕ) (l : Line) (o : course.Op) → get_elem? lines i ≡ some l
    → slice_get (ops (hart_of l.what) (records_before (hart_of l.what) lines i + 1)) y ≡ Some o
    → (e : Event) × (l.what ≡ entry.Event e) × Touches size (frame i) e.kind o
