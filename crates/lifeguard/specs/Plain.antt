-- The plain rules: what one event makes of a state, and all events one by one.
use Rattle.std.specs.Prelude.{ℕ, ◌+◌, ◌*◌, ◌/◌, ◌%◌, ◌^◌, Bool, true, false, not, ◌==◌, List, [], ◌∷◌, ◌++◌, length, Option, Some, None, find, if◌then◌else◌}
use Rattle.pl_base.specs.declared.widths.LoadWidth.{LoadWidth}
use Rattle.pl_base.specs.declared.widths.LoadWidth.TheVariants as load
use Rattle.pl_base.specs.declared.widths.FaultCause.TheVariants.{Unmapped}
use Rattle.pl_base.specs.Widths.{load_bytes, store_bytes}
use Rattle.pl_event.specs.declared.event.Event.{Event}
use Rattle.pl_event.specs.declared.event.Kind.{Kind}
use Rattle.pl_event.specs.declared.event.Kind.TheVariants.{Ld, St, Op, Mv, Im, Br, Jr, Al, Fr, Bf, Mp, Um, Rd, Wr, Ex, Ft}
use Rattle.pl_event.specs.declared.log.PageKind.TheVariants.{Data}
use Rattle.pl_event.specs.declared.log.Log.{Log}
use Rattle.pl_event.specs.declared.log.PageRun.{PageRun}
use Rattle.pl_event.specs.Numbers.{events_of, events_on}
use Rattle.lifeguard.specs.declared.guard.Name.{Name}
use Rattle.lifeguard.specs.declared.guard.Name.TheVariants as name
use Rattle.lifeguard.specs.declared.guard.RangeKind.TheVariants as range
use Rattle.lifeguard.specs.declared.report.Report.{Report}
use Rattle.lifeguard.specs.declared.report.ReportKind.{ReportKind}
use Rattle.lifeguard.specs.declared.report.ReportKind.TheVariants as report
use Rattle.lifeguard.specs.declared.report.EventPlace.{EventPlace}
use Rattle.lifeguard.specs.Rules.{Rules}
use Rattle.lifeguard.specs.State.{State, Bytes, Masks, nibble_at, span, changed, paged, with_mask, first_state}

-- ---- reports

abbrev pub report_at : EventPlace → ReportKind → ℕ → Report
report_at at kind addr = record { place = at.place; hart = at.hart; event = at.number; kind = kind; addr = addr }

abbrev pub reported : EventPlace → ReportKind → Option ℕ → List Report
reported at kind None = []
reported at kind (Some addr) = report_at at kind addr ∷ []

-- what a report on a checked register is called
abbrev pub register_report : Kind → ReportKind
register_report (Ld width rd rb addr) = report.Addr
register_report (St width rv rb addr) = report.Addr
register_report (Br r1 r2) = report.Branch
register_report (Jr rd rs) = report.Jump
register_report _ = report.Arg

-- the bytes whose access is checked
abbrev pub touched : Kind → List ℕ
touched (Ld width rd rb addr) = span addr (load_bytes width)
touched (St width rv rb addr) = span addr (store_bytes width)
touched (Rd addr len) = span addr len
touched (Wr addr len) = span addr len
touched _ = []

-- the bytes whose value is checked
abbrev pub sent : Kind → List ℕ
sent (Wr addr len) = span addr len
sent _ = []

-- the first checked register whose mask is not 0
abbrev pub marked_register : Rules → Masks → ℕ → Kind → Option ℕ
marked_register rules masks hart kind = find (λ register. not (masks hart register == 0)) (rules.checked kind)

abbrev pub bad_touch : Rules → Bytes → Kind → Option ℕ
bad_touch rules bytes kind = find (λ addr. rules.bad_access (nibble_at bytes addr)) (touched kind)

abbrev pub bad_sent : Rules → Bytes → Kind → Option ℕ
bad_sent rules bytes kind = find (λ addr. rules.bad_value (nibble_at bytes addr)) (sent kind)

-- a taint check reports neither a free of no block nor a fault
abbrev pub is_taint : Name → Bool
is_taint name.Addr = false
is_taint name.Taint = true
is_taint name.Mem = false

-- what the event itself is reported as
abbrev pub misdeed : Kind → Option (ReportKind × ℕ)
misdeed (Bf addr) = Some (report.BadFree, addr)
misdeed (Ft Unmapped addr) = Some (report.Fault, addr)
misdeed _ = None

abbrev pub misdeed_report : EventPlace → Option (ReportKind × ℕ) → List Report
misdeed_report at None = []
misdeed_report at (Some deed) = report_at at deed.0 deed.1 ∷ []

-- the report of what the event itself is, which a taint check leaves out
abbrev pub misdeeds : Rules → EventPlace → Kind → List Report
misdeeds rules at kind = if is_taint rules.name then [] else misdeed_report at (misdeed kind)

-- the reports of an event, in order
abbrev pub reports_of : Rules → EventPlace → Kind → State → List Report
reports_of rules at kind state =
    reported at (register_report kind) (marked_register rules state.masks at.hart kind)
    ++ reported at report.Access (bad_touch rules state.bytes kind)
    ++ reported at report.Undef (bad_sent rules state.bytes kind)
    ++ misdeeds rules at kind

-- ---- masks

abbrev pub bit_value : Bool → ℕ
bit_value true = 1
bit_value false = 0

abbrev pub mask_from : Bool → Bool → Bool → Bool → ℕ
mask_from a b c d = bit_value a + 2 * bit_value b + 4 * bit_value c + 8 * bit_value d

-- a signed load repeats the bit of its top byte
abbrev pub load_bits : LoadWidth → Bool → Bool → Bool → Bool → ℕ
load_bits load.B a b c d = mask_from a a a a
load_bits load.H a b c d = mask_from a b b b
load_bits load.W a b c d = mask_from a b c d
load_bits load.Bu a b c d = mask_from a false false false
load_bits load.Hu a b c d = mask_from a b false false

abbrev pub loaded_mask : Rules → LoadWidth → Bytes → ℕ → ℕ
loaded_mask rules width bytes addr =
    load_bits width (rules.load_bit (nibble_at bytes addr)) (rules.load_bit (nibble_at bytes (addr + 1)))
    (rules.load_bit (nibble_at bytes (addr + 2))) (rules.load_bit (nibble_at bytes (addr + 3)))

-- after a kernel call other than an end the answer's register is clear
abbrev pub answered : ℕ → Masks → Masks
answered hart masks = with_mask hart 10 0 masks

abbrev pub masks_after : Rules → ℕ → Kind → Bytes → Masks → Masks
masks_after rules hart (Ld width rd rb addr) bytes masks = with_mask hart rd (loaded_mask rules width bytes addr) masks
masks_after rules hart (St width rv rb addr) bytes masks = masks
masks_after rules hart (Op rd r1 r2) bytes masks = with_mask hart rd (rules.joins (masks hart r1) (masks hart r2)) masks
masks_after rules hart (Mv rd rs) bytes masks = with_mask hart rd (masks hart rs) masks
masks_after rules hart (Im rd) bytes masks = with_mask hart rd 0 masks
masks_after rules hart (Br r1 r2) bytes masks = masks
masks_after rules hart (Jr rd rs) bytes masks = with_mask hart rd 0 masks
masks_after rules hart (Al addr len) bytes masks = answered hart masks
masks_after rules hart (Fr addr len) bytes masks = answered hart masks
masks_after rules hart (Bf addr) bytes masks = answered hart masks
masks_after rules hart (Mp page count) bytes masks = answered hart masks
masks_after rules hart (Um page count) bytes masks = answered hart masks
masks_after rules hart (Rd addr len) bytes masks = answered hart masks
masks_after rules hart (Wr addr len) bytes masks = answered hart masks
masks_after rules hart Ex bytes masks = masks
masks_after rules hart (Ft cause addr) bytes masks = masks

-- ---- bytes

-- bit i of a mask is the one of byte i
abbrev pub mask_bit : ℕ → ℕ → Bool
mask_bit mask i = (mask / 2 ^ i % 2) == 1

abbrev pub stored : Rules → ℕ → ℕ → ℕ → Bytes → Bytes
stored rules mask addr len bytes = changed (λ i old. rules.store_nibble old (mask_bit mask i)) addr len bytes

abbrev pub bytes_after : Rules → ℕ → Kind → Bytes → Masks → Bytes
bytes_after rules hart (Ld width rd rb addr) bytes masks = bytes
bytes_after rules hart (St width rv rb addr) bytes masks = stored rules (masks hart rv) addr (store_bytes width) bytes
bytes_after rules hart (Op rd r1 r2) bytes masks = bytes
bytes_after rules hart (Mv rd rs) bytes masks = bytes
bytes_after rules hart (Im rd) bytes masks = bytes
bytes_after rules hart (Br r1 r2) bytes masks = bytes
bytes_after rules hart (Jr rd rs) bytes masks = bytes
bytes_after rules hart (Al addr len) bytes masks = changed (λ i old. rules.range_state range.Al old) addr len bytes
bytes_after rules hart (Fr addr len) bytes masks = changed (λ i old. rules.range_state range.Fr old) addr len bytes
bytes_after rules hart (Bf addr) bytes masks = bytes
bytes_after rules hart (Mp page count) bytes masks = paged (Some (rules.page_state Data)) page count bytes
bytes_after rules hart (Um page count) bytes masks = paged None page count bytes
bytes_after rules hart (Rd addr len) bytes masks = changed (λ i old. rules.range_state range.Rd old) addr len bytes
bytes_after rules hart (Wr addr len) bytes masks = bytes
bytes_after rules hart Ex bytes masks = bytes
bytes_after rules hart (Ft cause addr) bytes masks = bytes

-- ---- one event, and all

-- what one event makes of a state
unfoldable pub rule : Rules → EventPlace → Kind → State → State
rule rules at kind state = record {
  bytes = bytes_after rules at.hart kind state.bytes state.masks;
  masks = masks_after rules at.hart kind state.bytes state.masks;
  reports = state.reports ++ reports_of rules at kind state;
}

-- the place of an event after those before it
abbrev pub place_after : List Event → Event → EventPlace
place_after before event =
    record { place = length before + 1; hart = event.hart; number = events_on event.hart before + 1 }

-- further events, after those before them
abbrev pub plain_from : Rules → List Event → State → List Event → State
plain_from rules before state [] = state
plain_from rules before state (event ∷ events) =
    plain_from rules (before ++ event ∷ []) (rule rules (place_after before event) event.kind state) events

-- the plain result of a run: all events one by one, from the pages of its start
abbrev pub plain_result : Rules → List PageRun → List Event → State
plain_result rules pages events = plain_from rules [] (first_state rules pages) events

-- what the plain rules give over all events of a log, one by one in executed order
abbrev pub final_state : Rules → Log → State
final_state rules log = plain_result rules log.pages (events_of log.lines)
