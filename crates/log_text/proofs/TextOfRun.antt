-- The log of a run keeps the rules of a log's text.
use Rattle.std.proofs.Common.{◌≡◌, ◌≢◌, ℕ, ◌+◌, ◌<◌, ◌≤◌, inl, inr, Bool, true, false, not, eqb, ltb, leb, ◌&&◌, List, ◌∷◌, ◌++◌, length, map, Some, None, refl, sym, ap, subst, ◌∙◌, arith}
use Rattle.std.specs.Prelude.{find, count_by}
use Rattle.std.specs.List.{list_any}
use Rattle.std.proofs.lemmas.Bool.{false≢true, or_from, and_left, and_right, and_parts, cases_Bool, cases_eq, le-ltb, lt-leb, ne_eqb, eqb-true, not_from_true, false_from_ne_true}
use Rattle.std.proofs.lemmas.List.{take_all}
use mathlib.Core.Option.{some}
use lib.ListN.{get_elem?}
use Rattle.pl_event.specs.Alerts.{is_alert_kind}
use Rattle.pl_event.specs.Edges.{IsFlow, arc_of, notice_of}
use Rattle.pl_event.specs.Numbers.{hart_of}
use Rattle.pl_event.specs.Records.{records_before, IsRecord}
use Rattle.pl_event.specs.declared.event.Event.{Event}
use Rattle.pl_event.specs.declared.event.Kind.{Kind}
use Rattle.pl_event.specs.declared.event.Kind.TheVariants.{Mp, Um}
use Rattle.pl_event.specs.declared.log.Line.{Line}
use Rattle.pl_event.specs.declared.log.Log.{Log}
use Rattle.pl_event.specs.declared.log.PageRun.{PageRun}
use Rattle.pl_event.specs.declared.log.Point.{Point}
use Rattle.pl_event.specs.declared.log.Record.{Record}
use Rattle.pl_event.specs.declared.log.Record.TheVariants as entry
use Rattle.pl_event.proofs.Places.{record_at, one_place, before_own, before_up, before_most}
use Rattle.pl_event.proofs.MappedPages.{line_holds}
use Rattle.pl_event.proofs.Places as places
use Rattle.log_text.specs.declared.cause.LogCause.{LogCause}
use Rattle.log_grammar.specs.Form.{IsInForm, IsRecordInForm, IsPointInForm, MayHave, most_read, most_written}
use Rattle.log_text.specs.Pages.{some_page}
use Rattle.log_grammar.specs.Spelling.{Entry, page, row, row_of, points_from, entries_of}
use Rattle.log_text.specs.WellFormed.{is_row, is_row_of, is_end_of, is_pending, is_notice_of, is_waiting, has_pending, on_event, records_in, page_end, pages_mapped, mapped_in, names_past, breaks, breaks_page, breaks_ended, breaks_arc, breaks_notice, is_bad_notice, is_misaligned, passes_end, is_bad_map, Continues, KeepsRules, IsWellFormed, IsWritable, rules_in_order, rules_of_any_length}
use Rattle.pl_base.specs.Pages.{count_below}
use Rattle.pl_base.proofs.Pages.{count_none}
use Rattle.pl_event.specs.OpeningPages.{RiseFrom, pages_in}
use Rattle.pl_event.specs.Mapping.{KeepsPages, mapped_at}
use Rattle.pl_event.specs.Runs.{IsRunLog, HasNumbersTo, IsSoundLine, IsSoundRecord, IsAlert, ends_hart}
use Rattle.log_text.proofs.LinesBefore.{front_of, records_at, rows_at, none_before, no_page, each_entry}
use Rattle.log_text.proofs.ArcPoints.{each_point, passes_none, rising}
use Rattle.log_text.proofs.MappedLines.{no_page_passes, mapped_same, counted_same, rises_after, count_front, pages_append}
use Rattle.log_text.proofs.RowRules.{RowSound, row_breaks_none, row_breaks_no_rule, page_breaks_none, page_breaks_no_rule, aligned, inside, fields_in_form}

abbrev answer : Bool → Bool
answer b = b

-- a later record of a notice's hart has the notice's event before it
settled_before : (harts : ℕ) (lines : List Line) → IsFlow harts lines → (h k m i n u v : ℕ) (l line : Line) → IsRecord lines k h m l → l.what ≡ notice_of h u v → IsRecord lines i h n line → k < i → v ≤ records_before u lines i
settled_before harts lines flow h k m i n u v l line there is here before =
    let own : records_before h lines (k + 1) ≡ records_before h lines k + 1 = before_own lines k h l there.at there.hart in
    let number : records_before h lines k + 1 ≡ m = there.number in
    let up : records_before h lines (k + 1) ≤ records_before h lines i = before_up lines (k + 1) i h (omega arith) in
    let next : records_before h lines (i + 1) ≡ records_before h lines i + 1 = before_own lines i h line here.at here.hart in
    let t = record_at lines (i + 1) h (m + 1) (omega arith) (omega (arith, own, number, up, next)) in
    let come : v ≤ records_before u lines t.0 = flow.closed t.0 h m t.1 t.3 u v (k, l, there, is) in
    let upto : records_before u lines t.0 ≤ records_before u lines i = before_up lines t.0 i u (let b : t.0 < i + 1 = t.2 in omega arith) in
    omega (arith, come, upto)

-- an alert that a notice names comes before the end
comes_before : (lines : List Line) (u n : ℕ) → IsAlert lines u n → (n ≤ records_before u lines (length lines)) × (n ≤ length lines)
comes_before lines u n alert =
    let j = alert.0 in
    let line = alert.2.0 in
    let is : IsRecord lines j u n line = subst (λ (h : ℕ). IsRecord lines j h n line) alert.3 alert.2.1 in
    let number : records_before u lines j + 1 ≡ n = is.number in
    let own : records_before u lines (j + 1) ≡ records_before u lines j + 1 = before_own lines j u line is.at is.hart in
    let within : j < length lines = places.inside lines j line is.at in
    let up : records_before u lines (j + 1) ≤ records_before u lines (length lines) = before_up lines (j + 1) (length lines) u (omega (arith, within)) in
    let most : records_before u lines j ≤ j = before_most lines u j in
    (omega (arith, number, own, up), omega (arith, number, most, within))

module _ (log : Log) (run : IsRunLog log) (i : ℕ) (line : Line) (at : get_elem? log.lines i ≡ some line) where
  here : IsRecord log.lines i (hart_of line.what) (records_before (hart_of line.what) log.lines i + 1) line
  here = record { at = at; hart = refl; number = refl }

  named : (own : ℕ) (of : Point) → line.what ≡ entry.Notice own of → IsRecord log.lines i own (records_before own log.lines i + 1) line
  named own of is = record { at = at; hart = ap hart_of is; number = refl }

  low : hart_of line.what < log.harts
  low = run.flow.within i (hart_of line.what) (records_before (hart_of line.what) log.lines i + 1) line here

  arc_from : (u n : ℕ) → arc_of line u ≡ Some n → (u < log.harts) × (u ≢ hart_of line.what) × (1 ≤ n) × (n ≤ records_before u log.lines i)
  arc_from = run.flow.arcs i (hart_of line.what) (records_before (hart_of line.what) log.lines i + 1) line here

  later : (own : ℕ) (of : Point) → line.what ≡ entry.Notice own of → (of.hart < log.harts) × (of.hart ≢ own) × (records_before of.hart log.lines i < of.number)
  later own of is = run.flow.notices i own (records_before own log.lines i + 1) line (named own of is) of.hart of.number is

  hart_known : (what : Record) → line.what ≡ what → names_past log.harts what ≡ false
  hart_known (entry.Event event) is = lt-leb log.harts event.hart (subst (λ (w : Record). hart_of w < log.harts) is low)
  hart_known (entry.Notice own of) is =
      or_from (leb log.harts own) (leb log.harts of.hart) (lt-leb log.harts own (subst (λ (w : Record). hart_of w < log.harts) is low)) (lt-leb log.harts of.hart (later own of is).0)

  points_known : list_any (λ (point : Point). leb log.harts point.hart) (points_from 0 line.arcs) ≡ false
  points_known = passes_none (λ (point : Point). leb log.harts point.hart) (points_from 0 line.arcs)
      (each_point (λ (point : Point). leb log.harts point.hart ≡ false) line.arcs (λ u n is. lt-leb log.harts u (arc_from u n is).0))

  not_ended : (event : Event) → line.what ≡ entry.Event event → (k : ℕ) (l : Line) → k < i → get_elem? log.lines k ≡ some l → (what : Record) → l.what ≡ what → (on_event ends_hart what && eqb (hart_of what) event.hart) ≡ false
  not_ended event is k l before there (entry.Event a) was =
      elim (cases_eq a.hart event.hart) [
        | inl same ↦ and_left (ends_hart a.kind) (eqb a.hart event.hart) (run.live k i a event before (l, there, was) (line, at, is) same)
        | inr other ↦ and_right (ends_hart a.kind) (eqb a.hart event.hart) (ne_eqb a.hart event.hart other)
      ]
  not_ended event is k l before there (entry.Notice own of) was = refl

  still_live : (what : Record) → line.what ≡ what → breaks_ended (front_of log i) what ≡ false
  still_live (entry.Event event) is = none_before (is_end_of event.hart) log i (λ r. refl) (λ k l before there. not_ended event is k l before there l.what refl)
  still_live (entry.Notice own of) is = refl

  not_pending : (k : ℕ) (l : Line) → k < i → get_elem? log.lines k ≡ some l → (what : Record) (points : List Point) → l.what ≡ what → (is_pending (front_of log i) (row what points) && is_row_of (hart_of line.what) (row what points)) ≡ false
  not_pending k l before there (entry.Event a) points was = refl
  not_pending k l before there (entry.Notice own of) points was =
      elim (cases_eq own (hart_of line.what)) [
        | inl same ↦
            let is : IsRecord log.lines k own (records_before own log.lines k + 1) l = record { at = there; hart = ap hart_of was; number = refl } in
            let come : of.number ≤ records_before of.hart log.lines i =
            settled_before log.harts log.lines run.flow own k (records_before own log.lines k + 1) i (records_before own log.lines i + 1) of.hart of.number l line is was (record { at = at; hart = sym same; number = refl }) before in
            and_left _ _ (subst (λ (r : ℕ). ltb r of.number ≡ false) (sym (records_at log of.hart i)) (le-ltb (records_before of.hart log.lines i) of.number come))
        | inr other ↦ and_right _ _ (ne_eqb own (hart_of line.what) other)
      ]

  waits_not : is_waiting (front_of log i) (hart_of line.what) ≡ false
  waits_not = none_before (λ e. is_pending (front_of log i) e && is_row_of (hart_of line.what) e) log i (λ r. refl) (λ k l before there. not_pending k l before there l.what (points_from 0 l.arcs) refl)

  arcs_sound : breaks_arc (front_of log i) line.what (points_from 0 line.arcs) ≡ false
  arcs_sound =
      or_from _ _
      (or_from _ _
      (passes_none (λ (point : Point). eqb point.hart (hart_of line.what)) (points_from 0 line.arcs)
      (each_point (λ (point : Point). eqb point.hart (hart_of line.what) ≡ false) line.arcs (λ u n is. ne_eqb u (hart_of line.what) (arc_from u n is).1)))
      (not_from_true _ (rising line.arcs 0 0 (omega arith))))
      (passes_none (λ (point : Point). ltb (records_in point.hart (front_of log i)) point.number) (points_from 0 line.arcs)
      (each_point (λ (point : Point). ltb (records_in point.hart (front_of log i)) point.number ≡ false) line.arcs
      (λ u n is. subst (λ (r : ℕ). ltb r n ≡ false) (sym (records_at log u i)) (le-ltb (records_before u log.lines i) n (arc_from u n is).3))))

  notice_good : (what : Record) → line.what ≡ what → is_bad_notice (front_of log i) what ≡ false
  notice_good (entry.Event event) is = refl
  notice_good (entry.Notice own of) is =
      or_from _ _ (ne_eqb of.hart own (later own of is).1)
      (subst (λ (r : ℕ). leb of.number r ≡ false) (sym (records_at log of.hart i)) (lt-leb of.number (records_before of.hart log.lines i) (later own of is).2))

  not_named : on_event is_alert_kind line.what ≡ false → (k : ℕ) (l : Line) → k < i → get_elem? log.lines k ≡ some l → (what : Record) (points : List Point) → l.what ≡ what
      → is_notice_of (hart_of line.what) (records_in (hart_of line.what) (front_of log i) + 1) (row what points) ≡ false
  not_named quiet k l before there (entry.Event a) points was = refl
  not_named quiet k l before there (entry.Notice own of) points was =
      false_from_ne_true _ (λ e.
      let both = and_parts (eqb of.hart (hart_of line.what)) (eqb of.number (records_in (hart_of line.what) (front_of log i) + 1)) e in
      let hart : of.hart ≡ hart_of line.what = eqb-true of.hart (hart_of line.what) both.0 in
      let number : of.number ≡ records_in (hart_of line.what) (front_of log i) + 1 = eqb-true of.number (records_in (hart_of line.what) (front_of log i) + 1) both.1 in
      let count : records_in (hart_of line.what) (front_of log i) ≡ records_before (hart_of line.what) log.lines i = records_at log (hart_of line.what) i in
      let next : records_before (hart_of line.what) log.lines i + 1 ≡ of.number = omega (arith, number, count) in
      let alert = run.alerts own (records_before own log.lines k + 1) of.hart of.number (k, l, record { at = there; hart = ap hart_of was; number = refl }, was) in
      let stands : IsRecord log.lines alert.0 (hart_of line.what) of.number alert.2.0 = subst (λ (h : ℕ). IsRecord log.lines alert.0 h of.number alert.2.0) (alert.3 ∙ hart) alert.2.1 in
      let same = one_place log.lines (hart_of line.what) of.number alert.0 i alert.2.0 line stands (record { at = at; hart = refl; number = next }) in
      let what_is : line.what ≡ entry.Event alert.1 = ap (λ (x : Line). x.what) (sym same.1) ∙ alert.2.2 in
      let loud : on_event is_alert_kind line.what ≡ true = ap (λ (w : Record). on_event is_alert_kind w) what_is ∙ alert.4 in
      false≢true (sym quiet ∙ loud))

  notices_sound : breaks_notice (front_of log i) line.what ≡ false
  notices_sound = or_from _ _ (notice_good line.what refl)
      (elim (cases_Bool (on_event is_alert_kind line.what)) [
        | inl loud ↦ and_right _ _ (not_from_true _ loud)
        | inr quiet ↦ and_left _ _ (none_before (is_notice_of (hart_of line.what) (records_in (hart_of line.what) (front_of log i) + 1)) log i (λ r. refl) (λ k l before there. not_named quiet k l before there l.what (points_from 0 l.arcs) refl))
      ])

  sound : IsSoundLine log.harts line
  sound = line_holds (IsSoundLine log.harts) log.lines run.sound i line at

  record_sound : (what : Record) → line.what ≡ what → IsSoundRecord log.harts line.arcs what
  record_sound what is = subst (IsSoundRecord log.harts line.arcs) is sound.1

  aligned_row : (what : Record) → line.what ≡ what → on_event is_misaligned what ≡ false
  aligned_row (entry.Event event) is = aligned event.kind (record_sound (entry.Event event) is).1
  aligned_row (entry.Notice own of) is = refl

  inside_row : (what : Record) → line.what ≡ what → on_event passes_end what ≡ false
  inside_row (entry.Event event) is = inside event.kind (record_sound (entry.Event event) is).1
  inside_row (entry.Notice own of) is = refl

  maps_kind : (hart : ℕ) (kind : Kind) → line.what ≡ entry.Event (record { hart = hart; kind = kind }) → is_bad_map (front_of log i) kind ≡ false
  maps_kind hart (Mp first count) is =
      let valid = (record_sound (entry.Event (record { hart = hart; kind = Mp first count })) is).1 in
      let keeps : KeepsPages (mapped_at log i) (Mp first count) = run.maps i (record { hart = hart; kind = Mp first count }) (line, at, is) in
      or_from _ _
      (or_from _ _ (le-ltb 4096 (first + count) valid.3) (subst (λ (t : ℕ → Bool). some_page t first count ≡ false) (sym (mapped_same log i)) (no_page_passes (mapped_at log i) first count keeps.0)))
      (le-ltb 512 (pages_mapped (front_of log i) + count) (omega (arith, counted_same log i, keeps.1)))
  maps_kind hart (Um first count) is =
      let valid = (record_sound (entry.Event (record { hart = hart; kind = Um first count })) is).1 in
      let keeps : KeepsPages (mapped_at log i) (Um first count) = run.maps i (record { hart = hart; kind = Um first count }) (line, at, is) in
      or_from _ _ (le-ltb 4096 (first + count) valid.3)
      (no_page_passes (λ p. not (mapped_in (front_of log i) p)) first count (λ p from within. not_from_true _ (ap (λ (t : ℕ → Bool). t p) (mapped_same log i) ∙ keeps p from within)))
  maps_kind hart kind is = refl

  maps_row : (what : Record) → line.what ≡ what → on_event (is_bad_map (front_of log i)) what ≡ false
  maps_row (entry.Event event) is = maps_kind event.hart event.kind is
  maps_row (entry.Notice own of) is = refl

  pub row_of_run : RowSound log.harts (front_of log i) line.what (points_from 0 line.arcs)
  row_of_run = record {
    hart = or_from _ _ (hart_known line.what refl) points_known;
    ended = still_live line.what refl;
    settled = waits_not;
    arc = arcs_sound;
    notice = notices_sound;
    access = aligned_row line.what refl;
    range = inside_row line.what refl;
    map = maps_row line.what refl;
  }

  -- the line is in form where the numbers that it names are
  record_in_form : (most : ℕ) → HasNumbersTo most log.lines → (what : Record) → line.what ≡ what → IsRecordInForm most what
  record_in_form most numbers (entry.Event event) is =
      let valid = record_sound (entry.Event event) is in
      (omega (arith, valid.0, run.opening.few), fields_in_form event.kind valid.1)
  record_in_form most numbers (entry.Notice own of) is =
      let hart : own < log.harts = subst (λ (w : Record). hart_of w < log.harts) is low in
      let told = later own of is in
      (omega (arith, hart, run.opening.few), (omega (arith, told.0, run.opening.few), omega (arith, told.2), numbers.notices own (records_before own log.lines i + 1) of.hart of.number (i, line, named own of is, is)))

  may_have : (what : Record) → line.what ≡ what → MayHave what (points_from 0 line.arcs)
  may_have (entry.Event event) is = tt
  may_have (entry.Notice own of) is = ap (points_from 0) (record_sound (entry.Notice own of) is)

  pub row_in_form : (most : ℕ) → HasNumbersTo most log.lines → IsInForm most (row_of line)
  row_in_form most numbers = (
    record_in_form most numbers line.what refl,
    each_point (IsPointInForm most) line.arcs (λ u n is. let from = arc_from u n is in (omega (arith, from.0, run.opening.few), from.2, numbers.arcs i line at u n is)),
    may_have line.what refl,
  )

module _ (log : Log) (run : IsRunLog log) where
  -- a run of pages after others
  page_of_run : (front : List PageRun) (r : PageRun) (rest : List PageRun) → log.pages ≡ front ++ r ∷ rest → breaks_page (map page front) r ≡ false
  page_of_run front r rest split =
      let rise : RiseFrom 0 (front ++ r ∷ rest) = subst (RiseFrom 0) split run.opening.rising in
      let rises = rises_after 0 front r rest rise in
      let count : pages_mapped (map page front) ≡ count_below (λ p. false) 4096 + pages_in front = count_front (λ p. false) 0 front (r ∷ rest) rise (λ p from. refl) in
      let all : pages_in log.pages ≡ pages_in (front ++ r ∷ rest) = ap pages_in split in
      or_from _ _
      (or_from _ _
      (or_from _ _ (no_page is_row (λ r. refl) front) (le-ltb r.first (page_end (map page front)) rises.0))
      (le-ltb 4096 (r.first + r.count) rises.1.3))
      (le-ltb 512 (pages_mapped (map page front) + r.count) (omega (arith, count, count_none 4096, all, pages_append front r rest, run.opening.room)))

  page_in_form : (most : ℕ) (front : List PageRun) (r : PageRun) (rest : List PageRun) → log.pages ≡ front ++ r ∷ rest → IsInForm most (page r)
  page_in_form most front r rest split =
      let range = (rises_after 0 front r rest (subst (RiseFrom 0) split run.opening.rising)).1 in
      (omega (arith, range.0), range.1, range.2)

  -- what a notice names comes before the end
  comes : (k : ℕ) (l : Line) → get_elem? log.lines k ≡ some l → (what : Record) (points : List Point) → l.what ≡ what → is_pending (front_of log (length log.lines)) (row what points) ≡ false
  comes k l there (entry.Event a) points was = refl
  comes k l there (entry.Notice own of) points was =
      let alert = run.alerts own (records_before own log.lines k + 1) of.hart of.number (k, l, record { at = there; hart = ap hart_of was; number = refl }, was) in
      subst (λ (r : ℕ). ltb r of.number ≡ false) (sym (records_at log of.hart (length log.lines)))
      (le-ltb (records_before of.hart log.lines (length log.lines)) of.number (comes_before log.lines of.hart of.number alert).0)

  none_open : has_pending (entries_of log) ≡ false
  none_open =
      let whole : front_of log (length log.lines) ≡ entries_of log = ap (λ (ls : List Line). map page log.pages ++ map row_of ls) (take_all (length log.lines) log.lines (omega arith)) in
      subst (λ (es : List Entry). list_any (is_pending es) es ≡ false) whole
      (none_before (is_pending (front_of log (length log.lines))) log (length log.lines) (λ r. refl) (λ k l before there. comes k l there l.what (points_from 0 l.arcs) refl))

  keeps : (rules : List LogCause) (most : ℕ) → HasNumbersTo most log.lines
      → ((before : List Entry) (r : PageRun) → breaks_page before r ≡ false → find (breaks log.harts before (page r)) rules ≡ None)
      → ((i : ℕ) (line : Line) → get_elem? log.lines i ≡ some line → RowSound log.harts (front_of log i) line.what (points_from 0 line.arcs) → find (breaks log.harts (front_of log i) (row_of line)) rules ≡ None)
      → KeepsRules rules most log
  keeps rules most numbers on_pages on_rows = record {
    some = run.opening.some;
    few = run.opening.few;
    block = run.opening.block;
    eight = λ k d within. (run.sound k d within).0;
    lawful = each_entry (Continues rules most log.harts) log
        (λ front r rest split. record { in_form = page_in_form most front r rest split; breaks_none = on_pages (map page front) r (page_of_run front r rest split) })
        (λ i line at. record { in_form = row_in_form log run i line at most numbers; breaks_none = on_rows i line at (row_of_run log run i line at) });
    closed = none_open;
  }

  -- the numbers that lines name are those of lines
  pub numbers_to : (most : ℕ) → length log.lines ≤ most → HasNumbersTo most log.lines
  numbers_to most short = record {
    arcs = λ i line at u n is.
        let from = arc_from log run i line at u n is in
        let within : i < length log.lines = places.inside log.lines i line at in
        omega (arith, from.3, before_most log.lines u i, within, short);
    notices = λ h k u n notice. omega (arith, (comes_before log.lines u n (run.alerts h k u n notice)).1, short);
  }

  pub writable_of : HasNumbersTo most_written log.lines → IsWritable log
  writable_of numbers = keeps rules_of_any_length most_written numbers (λ before r. page_breaks_none log.harts before r) (λ i line at. row_breaks_none log.harts (front_of log i) line.what (points_from 0 line.arcs))

  pub formed_of : length log.lines ≤ 2000000 → IsWellFormed log
  formed_of short = keeps rules_in_order most_read (numbers_to most_read short) (λ before r. page_breaks_no_rule log.harts before r)
      (λ i line at sound.
      let within : i < length log.lines = places.inside log.lines i line at in
      row_breaks_no_rule log.harts (front_of log i) line.what (points_from 0 line.arcs) sound
      (lt-leb 2000000 (count_by is_row (front_of log i)) (omega (arith, rows_at log i (omega (arith, within)), within, short))))
