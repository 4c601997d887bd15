-- A log that may be written is the log of a run.
use Rattle.std.proofs.Common.{◌≡◌, ℕ, zero, suc, ◌+◌, ◌<◌, ◌≤◌, Bool, true, false, not, eqb, ltb, ◌&&◌, List, [], ◌∷◌, ◌++◌, length, map, drop, inl, inr, refl, sym, ap, subst, ◌∙◌, append_assoc, arith}
use Rattle.std.specs.Prelude.{count_by}
use Rattle.std.specs.List.{list_any}
use Rattle.std.proofs.lemmas.Bool.{false≢true, or_parts, and_from, cases_lt, true_from_ne_false, ltb-false, leb-false, eq-eqb, not-false}
use Rattle.std.proofs.lemmas.List.{take_all}
use mathlib.Core.Option.{some}
use lib.ListN.{get_elem?}
use Rattle.pl_event.specs.Alerts.{is_alert_kind}
use Rattle.pl_event.specs.Edges.{IsFlow, IsNotice, notice_of}
use Rattle.pl_event.specs.Numbers.{hart_of}
use Rattle.pl_event.specs.Records.{records_before, IsRecord}
use Rattle.pl_event.specs.declared.event.Event.{Event}
use Rattle.pl_event.specs.declared.event.Kind.{Kind}
use Rattle.pl_event.specs.declared.event.Kind.TheVariants.{Mp, Um}
use Rattle.pl_event.specs.declared.log.Line.{Line}
use Rattle.pl_event.specs.declared.log.Log.{Log}
use Rattle.pl_event.specs.declared.log.PageRun.{PageRun}
use Rattle.pl_event.specs.declared.log.Record.{Record}
use Rattle.pl_event.specs.declared.log.Record.TheVariants as entry
use Rattle.pl_event.proofs.Places.{record_at, before_own, before_other, before_up}
use Rattle.pl_event.proofs.MappedPages.{line_at}
use Rattle.pl_event.proofs.Places as places
use Rattle.log_text.specs.declared.cause.LogCause.TheVariants.{Page}
use Rattle.log_grammar.specs.Form.{IsPointInForm, IsRecordInForm, most_written}
use Rattle.log_text.specs.Pages.{some_page}
use Rattle.log_grammar.specs.Spelling.{Entry, page, row, row_of, points_from, entries_of}
use Rattle.log_text.specs.WellFormed.{is_row, is_end_of, is_pending, is_notice_of, is_awaited, on_event, records_in, mapped_in, pages_mapped, breaks, breaks_records, breaks_ended, breaks_notice, is_bad_notice, is_bad_map, IsLawful, IsWellFormed, IsWritable, rules_in_order, rules_of_any_length}
use Rattle.log_text.proofs.Flow.{flows}
use Rattle.log_text.proofs.SoundLines.{lines_sound, row_continues, row_keeps}
use Rattle.pl_base.proofs.Pages.{count_none}
use Rattle.log_text.proofs.RuleLemmas.{find-None, fails_at}
use Rattle.pl_event.specs.Mapping.{KeepsPages, mapped_at}
use Rattle.pl_event.specs.Runs.{HasNumbersTo, IsRunLog, IsAlert, EventAt, ends_hart}
use Rattle.log_text.proofs.LinesBefore.{front_of, parted, records_at, rows_at, fails_before}
use Rattle.log_text.proofs.ArcPoints.{arc_holds}
use Rattle.log_text.proofs.MappedLines.{EachSound, rise_from, few_pages, each_fails, mapped_same, counted_same}
use Rattle.log_text.proofs.RowRules.{RowSound, page_sound}

-- page lines, one after the other
pages_sound : (most harts : ℕ) (before : List Entry) (pages : List PageRun) (rest : List Entry) → IsLawful rules_of_any_length most harts (before ++ (map page pages ++ rest)) → EachSound before pages
pages_sound most harts before [] rest lawful = tt
pages_sound most harts before (run ∷ pages) rest lawful = (
  page_sound most harts before run (lawful before (map page pages ++ rest) (page run) refl),
  pages_sound most harts (before ++ page run ∷ []) pages rest (subst (IsLawful rules_of_any_length most harts) (sym (append_assoc before (page run ∷ []) (map page pages ++ rest))) lawful),
)

module _ (log : Log) (writable : IsWritable log) where
  keeps : (i : ℕ) (line : Line) → get_elem? log.lines i ≡ some line → RowSound log.harts (front_of log i) line.what (points_from 0 line.arcs)
  keeps = row_keeps log writable.lawful

  -- notices

  whole : front_of log (length log.lines) ≡ entries_of log
  whole = ap (λ (ls : List Line). map page log.pages ++ map row_of ls) (take_all (length log.lines) log.lines (omega arith))

  -- a notice has its event before the end
  come : (h k u n : ℕ) (notice : IsNotice log.lines h k u n) → n ≤ records_before u log.lines (length log.lines)
  come h k u n notice =
      let none : list_any (is_pending (front_of log (length log.lines))) (front_of log (length log.lines)) ≡ false = subst (λ (es : List Entry). list_any (is_pending es) es ≡ false) (sym whole) writable.closed in
      let within : notice.0 < length log.lines = places.inside log.lines notice.0 notice.1 notice.2.at in
      let fails = fails_before (is_pending (front_of log (length log.lines))) log (length log.lines) notice.0 notice.1 none notice.2.at within in
      let shown : ltb (records_in u (front_of log (length log.lines))) n ≡ false = subst (λ (what : Record). is_pending (front_of log (length log.lines)) (row what (points_from 0 notice.1.arcs)) ≡ false) notice.3 fails in
      subst (λ (r : ℕ). n ≤ r) (records_at log u (length log.lines)) (ltb-false (records_in u (front_of log (length log.lines))) n shown)

  -- and the event is an alert
  loud : (b c : Bool) → b ≡ true → (b && not c) ≡ false → c ≡ true
  loud true true is e = refl
  loud true false is e = sym e
  loud false c is e = absurd (false≢true is)

  alert_of : (lines : List Line) (j u n : ℕ) (line : Line) → IsRecord lines j u n line → (what : Record) → line.what ≡ what → on_event is_alert_kind what ≡ true → IsAlert lines u n
  alert_of lines j u n line is (entry.Event event) was alert =
      let hart : u ≡ event.hart = sym is.hart ∙ ap hart_of was in
      (j, event, (line, subst (λ (h : ℕ). IsRecord lines j h n line) hart is, was), sym hart, alert)
  alert_of lines j u n line is (entry.Notice own of) was alert = absurd (false≢true alert)

  alerts : (h k u n : ℕ) → IsNotice log.lines h k u n → IsAlert log.lines u n
  alerts h k u n notice =
      let i = notice.0 in
      let flow : IsFlow log.harts log.lines = flows log writable.lawful in
      let told = flow.notices i h k notice.1 notice.2 u n notice.3 in
      let t = record_at log.lines (length log.lines) u n (omega (arith, told.2)) (come h k u n notice) in
      let j = t.0 in
      let line = t.1 in
      let is : IsRecord log.lines j u n line = t.3 in
      let number : records_before u log.lines j + 1 ≡ n = is.number in
      let later : i < j = elim (cases_lt i j) as (λ _. i < j) [
        | inl lt ↦ lt
        | inr ge ↦
            let up : records_before u log.lines j ≤ records_before u log.lines i = before_up log.lines j i u ge in
            let other : records_before u log.lines (i + 1) ≡ records_before u log.lines i = before_other log.lines i u notice.1 notice.2.at (λ e. told.1 (sym e ∙ notice.2.hart)) in
            let own : records_before u log.lines (j + 1) ≡ records_before u log.lines j + 1 = before_own log.lines j u line is.at is.hart in
            let past : records_before u log.lines (j + 1) ≤ records_before u log.lines (i + 1) = before_up log.lines (j + 1) (i + 1) u (omega (arith, ge)) in
            absurd (omega (arith, up, other, own, past, number, told.2))
      ] in
      let count : records_in u (front_of log j) ≡ records_before u log.lines j = records_at log u j in
      let same : hart_of line.what ≡ u = is.hart in
      let kept : breaks_notice (front_of log j) line.what ≡ false = (keeps j line is.at).notice in
      let parts = or_parts (is_bad_notice (front_of log j) line.what) _ kept in
      let named : is_notice_of u (records_in u (front_of log j) + 1) (row (notice_of h u n) (points_from 0 notice.1.arcs)) ≡ true =
      and_from (eqb u u) (eqb n (records_in u (front_of log j) + 1)) (eq-eqb u u refl) (eq-eqb n (records_in u (front_of log j) + 1) (omega (arith, number, count))) in
      let awaited : is_awaited (front_of log j) u ≡ true = true_from_ne_false (is_awaited (front_of log j) u)
      (λ none.
      let fails = fails_before (is_notice_of u (records_in u (front_of log j) + 1)) log j i notice.1 none notice.2.at later in
      let shown : is_notice_of u (records_in u (front_of log j) + 1) (row (notice_of h u n) (points_from 0 notice.1.arcs)) ≡ false = subst (λ (what : Record). is_notice_of u (records_in u (front_of log j) + 1) (row what (points_from 0 notice.1.arcs)) ≡ false) notice.3 fails in
      false≢true (sym shown ∙ named)) in
      let awaited' : is_awaited (front_of log j) (hart_of line.what) ≡ true = subst (λ (x : ℕ). is_awaited (front_of log j) x ≡ true) (sym same) awaited in
      alert_of log.lines j u n line is line.what refl (loud (is_awaited (front_of log j) (hart_of line.what)) (on_event is_alert_kind line.what) awaited' parts.1)

  -- ends

  live : (i j : ℕ) (a b : Event) → i < j → EventAt log.lines i a → EventAt log.lines j b → a.hart ≡ b.hart → ends_hart a.kind ≡ false
  live i j a b before first second same =
      let kept : breaks_ended (front_of log j) (entry.Event b) ≡ false = subst (λ (what : Record). breaks_ended (front_of log j) what ≡ false) second.2 (keeps j second.0 second.1).ended in
      let fails = fails_before (is_end_of b.hart) log j i first.0 kept first.1 before in
      let shown : (ends_hart a.kind && eqb a.hart b.hart) ≡ false = subst (λ (what : Record). is_end_of b.hart (row what (points_from 0 first.0.arcs)) ≡ false) first.2 fails in
      left (ends_hart a.kind) (eqb a.hart b.hart) (eq-eqb a.hart b.hart same) shown
    where
      left : (x y : Bool) → y ≡ true → (x && y) ≡ false → x ≡ false
      left false y is e = refl
      left true y is e = absurd (false≢true (sym e ∙ is))

  -- mapping

  maps_kind : (i : ℕ) (kind : Kind) → is_bad_map (front_of log i) kind ≡ false → KeepsPages (mapped_at log i) kind
  maps_kind i (Mp first count) kept =
      let parts = or_parts _ (ltb 512 (pages_mapped (front_of log i) + count)) kept in
      let none : some_page (mapped_in (front_of log i)) first count ≡ false = (or_parts (ltb 4096 (first + count)) _ parts.0).1 in
      let room : pages_mapped (front_of log i) + count ≤ 512 = ltb-false 512 (pages_mapped (front_of log i) + count) parts.1 in
      (each_fails (mapped_at log i) first count (subst (λ (t : ℕ → Bool). some_page t first count ≡ false) (mapped_same log i) none), omega (arith, room, counted_same log i))
  maps_kind i (Um first count) kept =
      let none : some_page (λ p. not (mapped_in (front_of log i) p)) first count ≡ false = (or_parts (ltb 4096 (first + count)) _ kept).1 in
      (λ p from within. sym (ap (λ (t : ℕ → Bool). t p) (mapped_same log i)) ∙ not-false (mapped_in (front_of log i) p) (each_fails (λ p. not (mapped_in (front_of log i) p)) first count none p from within))
  maps_kind i kind kept = tt

  maps : (i : ℕ) (event : Event) → EventAt log.lines i event → KeepsPages (mapped_at log i) event.kind
  maps i event here =
      maps_kind i event.kind (subst (λ (what : Record). on_event (is_bad_map (front_of log i)) what ≡ false) here.2 (keeps i here.0 here.1).map)

  pub run_of_text : IsRunLog log
  run_of_text =
      let sound : EachSound [] log.pages = pages_sound most_written log.harts [] log.pages (map row_of log.lines) writable.lawful in
      record {
        opening = record {
          some = writable.some;
          few = writable.few;
          block = writable.block;
          rising = rise_from [] log.pages sound;
          room = omega (arith, few_pages [] log.pages sound (λ p from. refl) (omega (arith, count_none 4096)));
        };
        sound = lines_sound log writable.lawful writable.eight;
        flow = flows log writable.lawful;
        alerts = alerts;
        live = live;
        maps = maps;
      }

  -- the numbers that its lines name have 32 bits
  pub numbers_of_text : HasNumbersTo most_written log.lines
  numbers_of_text = record {
    arcs = λ i line at u n is. (arc_holds (IsPointInForm most_written) line.arcs u n is (row_continues log writable.lawful i line at).in_form.1).2;
    notices = λ h k u n notice.
        let form : IsRecordInForm most_written (notice_of h u n) = subst (IsRecordInForm most_written) notice.3 (row_continues log writable.lawful notice.0 notice.1 notice.2.at).in_form.0 in
        form.1.2;
  }

-- the last record of a log that is read has fewer than 2,000,000 before it
pub short_of : (log : Log) → IsWellFormed log → length log.lines ≤ 2000000
short_of log formed = last (length log.lines) refl
  where
    last : (n : ℕ) → length log.lines ≡ n → n ≤ 2000000
    last zero e = omega arith
    last (suc n) e =
        let t = line_at log.lines n (omega (arith, e)) in
        let continues = formed.lawful (front_of log n) (map row_of (drop (suc n) log.lines)) (row_of t.0) (parted log n t.0 t.1) in
        let breaks_it = breaks log.harts (front_of log n) (row_of t.0) in
        let kept : breaks_records (front_of log n) ≡ false = fails_at breaks_it rules_in_order 1 Page (find-None breaks_it rules_in_order continues.breaks_none) (omega arith) in
        omega (arith, leb-false 2000000 (count_by is_row (front_of log n)) kept, rows_at log n (omega (arith, e)))
