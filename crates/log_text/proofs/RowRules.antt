-- What the rules say of one record, in either direction.
use Rattle.std.proofs.Common.{◌≡◌, ℕ, ◌+◌, ◌%◌, ◌^◌, ◌<◌, false, ltb, List, None, refl, arith}
use Rattle.std.specs.Prelude.{find}
use Rattle.std.proofs.lemmas.Bool.{or_parts, eqb-true, eq-eqb, ltb-false, le-ltb, not-false, not_from_true}
use Rattle.pl_base.specs.Widths.{load_bytes, store_bytes}
use Rattle.pl_event.specs.Numbers.{hart_of}
use Rattle.pl_event.specs.Valid.{HasValidFields}
use Rattle.pl_event.specs.declared.event.Kind.{Kind}
use Rattle.pl_event.specs.declared.event.Kind.TheVariants.{Ld, St, Op, Mv, Im, Br, Jr, Al, Fr, Bf, Mp, Um, Rd, Wr, Ex, Ft}
use Rattle.pl_event.specs.declared.log.PageRun.{PageRun}
use Rattle.pl_event.specs.declared.log.Point.{Point}
use Rattle.pl_event.specs.declared.log.Record.{Record}
use Rattle.log_text.specs.declared.cause.LogCause.TheVariants.{Page}
use Rattle.log_grammar.specs.Form.{HasFormFields}
use Rattle.log_grammar.specs.Spelling.{Entry, page, row}
use Rattle.log_text.specs.WellFormed.{page_end, pages_mapped, breaks, breaks_page, breaks_records, breaks_hart, breaks_ended, breaks_arc, breaks_notice, is_waiting, is_misaligned, passes_end, is_bad_map, on_event, Continues, rules_in_order, rules_of_any_length}
use Rattle.log_text.proofs.RuleLemmas.{find-None, fails_at}
use Rattle.log_text.proofs.MappedLines.{PageSound}

-- a record breaks no rule but that on their count
pub record RowSound (harts : ℕ) (before : List Entry) (what : Record) (points : List Point) : Type 0 where
  pub hart : breaks_hart harts what points ≡ false
  pub ended : breaks_ended before what ≡ false
  pub settled : is_waiting before (hart_of what) ≡ false
  pub arc : breaks_arc before what points ≡ false
  pub notice : breaks_notice before what ≡ false
  pub access : on_event is_misaligned what ≡ false
  pub range : on_event passes_end what ≡ false
  pub map : on_event (is_bad_map before) what ≡ false

pub row_breaks_none : (harts : ℕ) (before : List Entry) (what : Record) (points : List Point) → RowSound harts before what points → find (breaks harts before (row what points)) rules_of_any_length ≡ None
row_breaks_none harts before what points sound =
    rw (sound.hart, sound.ended, sound.settled, sound.arc, sound.notice, sound.access, sound.range, sound.map) refl

pub row_breaks_no_rule : (harts : ℕ) (before : List Entry) (what : Record) (points : List Point) → RowSound harts before what points → breaks_records before ≡ false → find (breaks harts before (row what points)) rules_in_order ≡ None
row_breaks_no_rule harts before what points sound room =
    rw (room, sound.hart, sound.ended, sound.settled, sound.arc, sound.notice, sound.access, sound.range, sound.map) refl

pub row_sound : (most harts : ℕ) (before : List Entry) (what : Record) (points : List Point) → Continues rules_of_any_length most harts before (row what points) → RowSound harts before what points
row_sound most harts before what points continues =
    let each = λ (k : ℕ) (inside : k < 9). fails_at (breaks harts before (row what points)) rules_of_any_length k Page (find-None (breaks harts before (row what points)) rules_of_any_length continues.breaks_none) inside in
    record { hart = each 1 (omega arith); ended = each 2 (omega arith); settled = each 3 (omega arith); arc = each 4 (omega arith); notice = each 5 (omega arith); access = each 6 (omega arith); range = each 7 (omega arith); map = each 8 (omega arith) }

-- Page lines

pub page_breaks_none : (harts : ℕ) (before : List Entry) (run : PageRun) → breaks_page before run ≡ false → find (breaks harts before (page run)) rules_of_any_length ≡ None
page_breaks_none harts before run kept = rw kept refl

pub page_breaks_no_rule : (harts : ℕ) (before : List Entry) (run : PageRun) → breaks_page before run ≡ false → find (breaks harts before (page run)) rules_in_order ≡ None
page_breaks_no_rule harts before run kept = rw kept refl

pub page_sound : (most harts : ℕ) (before : List Entry) (run : PageRun) → Continues rules_of_any_length most harts before (page run) → PageSound before run
page_sound most harts before run continues =
    let form = continues.in_form in
    let kept : breaks_page before run ≡ false = fails_at (breaks harts before (page run)) rules_of_any_length 0 Page (find-None (breaks harts before (page run)) rules_of_any_length continues.breaks_none) (omega arith) in
    let four = or_parts _ (ltb 512 (pages_mapped before + run.count)) kept in
    let three = or_parts _ (ltb 4096 (run.first + run.count)) four.0 in
    let two = or_parts _ (ltb run.first (page_end before)) three.0 in
    record {
      range = (omega (arith, form.0), form.1, form.2, ltb-false 4096 (run.first + run.count) three.1);
      from = ltb-false run.first (page_end before) two.1;
      room = ltb-false 512 (pages_mapped before + run.count) four.1;
    }

-- Fields

pub aligned : (kind : Kind) → HasValidFields kind → is_misaligned kind ≡ false
aligned (Ld width rd rb addr) valid = not_from_true _ (eq-eqb (addr % load_bytes width) 0 valid.2.1)
aligned (St width rv rb addr) valid = not_from_true _ (eq-eqb (addr % store_bytes width) 0 valid.2.1)
aligned kind valid = refl

pub inside : (kind : Kind) → HasValidFields kind → passes_end kind ≡ false
inside (Al addr len) valid = le-ltb (2 ^ 24) (addr + len) valid.3
inside (Fr addr len) valid = le-ltb (2 ^ 24) (addr + len) valid.3
inside (Rd addr len) valid = le-ltb (2 ^ 24) (addr + len) valid.3
inside (Wr addr len) valid = le-ltb (2 ^ 24) (addr + len) valid.3
inside kind valid = refl

pub fields_in_form : (kind : Kind) → HasValidFields kind → HasFormFields kind
fields_in_form (Ld width rd rb addr) valid = (valid.0, valid.1, valid.2.0)
fields_in_form (St width rv rb addr) valid = (valid.0, valid.1, valid.2.0)
fields_in_form (Op rd r1 r2) valid = valid
fields_in_form (Mv rd rs) valid = valid
fields_in_form (Im rd) valid = valid
fields_in_form (Br r1 r2) valid = valid
fields_in_form (Jr rd rs) valid = valid
fields_in_form (Al addr len) valid = (valid.0, valid.1, valid.2)
fields_in_form (Fr addr len) valid = (valid.0, valid.1, valid.2)
fields_in_form (Bf addr) valid = valid
fields_in_form (Mp first count) valid = (omega (arith, valid.0), valid.1, valid.2)
fields_in_form (Um first count) valid = (omega (arith, valid.0), valid.1, valid.2)
fields_in_form (Rd addr len) valid = (valid.0, valid.1, valid.2)
fields_in_form (Wr addr len) valid = (valid.0, valid.1, valid.2)
fields_in_form Ex valid = tt
fields_in_form (Ft cause addr) valid = valid

-- the fields of a well-formed kind that breaks no rule are in their ranges
pub valid_kind : (before : List Entry) (kind : Kind) → HasFormFields kind → is_misaligned kind ≡ false → passes_end kind ≡ false → is_bad_map before kind ≡ false → HasValidFields kind
valid_kind before (Ld width rd rb addr) form straight ends maps = (form.0, form.1, (form.2, eqb-true (addr % load_bytes width) 0 (not-false _ straight)))
valid_kind before (St width rv rb addr) form straight ends maps = (form.0, form.1, (form.2, eqb-true (addr % store_bytes width) 0 (not-false _ straight)))
valid_kind before (Op rd r1 r2) form straight ends maps = form
valid_kind before (Mv rd rs) form straight ends maps = form
valid_kind before (Im rd) form straight ends maps = form
valid_kind before (Br r1 r2) form straight ends maps = form
valid_kind before (Jr rd rs) form straight ends maps = form
valid_kind before (Al addr len) form straight ends maps = (form.0, form.1, form.2, ltb-false (2 ^ 24) (addr + len) ends)
valid_kind before (Fr addr len) form straight ends maps = (form.0, form.1, form.2, ltb-false (2 ^ 24) (addr + len) ends)
valid_kind before (Bf addr) form straight ends maps = form
valid_kind before (Mp first count) form straight ends maps = (omega (arith, form.0), form.1, form.2, ltb-false 4096 (first + count) (or_parts _ _ (or_parts _ _ maps).0).0)
valid_kind before (Um first count) form straight ends maps = (omega (arith, form.0), form.1, form.2, ltb-false 4096 (first + count) (or_parts _ _ maps).0)
valid_kind before (Rd addr len) form straight ends maps = (form.0, form.1, form.2, ltb-false (2 ^ 24) (addr + len) ends)
valid_kind before (Wr addr len) form straight ends maps = (form.0, form.1, form.2, ltb-false (2 ^ 24) (addr + len) ends)
valid_kind before Ex form straight ends maps = tt
valid_kind before (Ft cause addr) form straight ends maps = form
