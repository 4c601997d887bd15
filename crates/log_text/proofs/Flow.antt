-- In a log that keeps the rules, arcs and notices lead forward.
use Rattle.std.proofs.Common.{◌≡◌, ◌≢◌, ℕ, suc, ◌+◌, ◌<◌, ◌≤◌, Bool, true, false, eqb, ltb, leb, ◌&&◌, List, map, drop, refl, subst, arith}
use Rattle.std.specs.List.{list_any, AllByRecursion}
use Rattle.std.proofs.lemmas.Bool.{false≢true, ltb-false, leb-false, eqb-false, eq-eqb, or_parts}
use mathlib.Core.Option.{some}
use lib.ListN.{get_elem?}
use Rattle.pl_event.specs.Edges.{IsFlow, notice_of}
use Rattle.pl_event.specs.Numbers.{hart_of}
use Rattle.pl_event.specs.declared.log.Line.{Line}
use Rattle.pl_event.specs.declared.log.Log.{Log}
use Rattle.pl_event.specs.declared.log.Point.{Point}
use Rattle.pl_event.specs.declared.log.Record.{Record}
use Rattle.pl_event.specs.declared.log.Record.TheVariants as entry
use Rattle.pl_event.proofs.Places.{line_number_of, line_number_next}
use Rattle.log_text.specs.declared.cause.LogCause.TheVariants.{Page}
use Rattle.log_grammar.specs.Form.{IsPointInForm, most_written}
use Rattle.log_grammar.specs.Spelling.{Entry, row, row_of, points_from, entries_of}
use Rattle.log_text.specs.WellFormed.{Continues, IsLawful, breaks, breaks_hart, breaks_arc, breaks_notice, names_past, is_bad_notice, is_waiting, is_pending, is_row_of, records_in, rules_of_any_length}
use Rattle.log_text.proofs.ArcPoints.{arc_holds, none_passes}
use Rattle.log_text.proofs.LinesBefore.{front_of, parted, records_at, fails_before}
use Rattle.log_text.proofs.RuleLemmas.{find-None, fails_at}

-- each line of the log continues those before it
abbrev pub AreLawful : Log → Type 0
AreLawful log = IsLawful rules_of_any_length most_written log.harts (entries_of log)

-- What the rules give of a line

record KeepsFlow (harts : ℕ) (before : List Entry) (what : Record) (points : List Point) : Type 0 where
  pub form : AllByRecursion (IsPointInForm most_written) points
  pub within : names_past harts what ≡ false
  pub named : AllByRecursion (λ point. leb harts point.hart ≡ false) points
  pub others : AllByRecursion (λ point. eqb point.hart (hart_of what) ≡ false) points
  pub come : AllByRecursion (λ point. ltb (records_in point.hart before) point.number ≡ false) points
  pub settled : is_waiting before (hart_of what) ≡ false
  pub told : is_bad_notice before what ≡ false

keeps_flow : (harts : ℕ) (before : List Entry) (what : Record) (points : List Point) → Continues rules_of_any_length most_written harts before (row what points) → KeepsFlow harts before what points
keeps_flow harts before what points continues =
    let each = λ (k : ℕ) (inside : k < 9). fails_at (breaks harts before (row what points)) rules_of_any_length k Page (find-None (breaks harts before (row what points)) rules_of_any_length continues.breaks_none) inside in
    let past : breaks_hart harts what points ≡ false = each 1 (omega arith) in
    let pasts = or_parts (names_past harts what) (list_any (λ (point : Point). leb harts point.hart) points) past in
    let waits : is_waiting before (hart_of what) ≡ false = each 3 (omega arith) in
    let arcs : breaks_arc before what points ≡ false = each 4 (omega arith) in
    let two = or_parts _ (list_any (λ (point : Point). ltb (records_in point.hart before) point.number) points) arcs in
    let own = or_parts (list_any (λ (point : Point). eqb point.hart (hart_of what)) points) _ two.0 in
    let notice : breaks_notice before what ≡ false = each 5 (omega arith) in
    let told = or_parts (is_bad_notice before what) _ notice in
    record {
      form = continues.in_form.1;
      within = pasts.0;
      named = none_passes (λ (point : Point). leb harts point.hart) points pasts.1;
      others = none_passes (λ (point : Point). eqb point.hart (hart_of what)) points own.0;
      come = none_passes (λ (point : Point). ltb (records_in point.hart before) point.number) points two.1;
      settled = waits;
      told = told.0;
    }

line_keeps : (log : Log) → AreLawful log → (i : ℕ) (line : Line) → get_elem? log.lines i ≡ some line → KeepsFlow log.harts (front_of log i) line.what (points_from 0 line.arcs)
line_keeps log lawful i line at =
    keeps_flow log.harts (front_of log i) line.what (points_from 0 line.arcs)
    (lawful (front_of log i) (map row_of (drop (suc i) log.lines)) (row_of line) (parted log i line at))

hart_within : (harts : ℕ) (what : Record) → names_past harts what ≡ false → hart_of what < harts
hart_within harts (entry.Event event) within = leb-false harts event.hart within
hart_within harts (entry.Notice hart point) within = leb-false harts hart (or_parts (leb harts hart) (leb harts point.hart) within).0

both_fail : (b c : Bool) → c ≡ true → (b && c) ≡ false → b ≡ false
both_fail b true is fails = and_left b fails
  where
    and_left : (b : Bool) → (b && true) ≡ false → b ≡ false
    and_left true e = e
    and_left false e = refl
both_fail b false is fails = absurd (false≢true is)

-- a notice that keeps the rules is of a later record of another hart
told_later : (harts : ℕ) (before : List Entry) (h u n : ℕ) (points : List Point) → KeepsFlow harts before (notice_of h u n) points → (u < harts) × (u ≢ h) × (records_in u before < n)
told_later harts before h u n points keeps =
    let bad = or_parts (eqb u h) (leb n (records_in u before)) keeps.told in
    (leb-false harts u (or_parts (leb harts h) (leb harts u) keeps.within).1, eqb-false u h bad.0, leb-false n (records_in u before) bad.1)

-- a notice that waits for nothing has its event before
has_come : (before : List Entry) (h u n : ℕ) (points : List Point) → (is_pending before (row (notice_of h u n) points) && eqb h h) ≡ false → n ≤ records_in u before
has_come before h u n points fails = ltb-false (records_in u before) n (both_fail (ltb (records_in u before) n) (eqb h h) (eq-eqb h h refl) fails)

pub flows : (log : Log) → AreLawful log → IsFlow log.harts log.lines
flows log lawful = record {
  within = λ i h m line is. subst (λ (x : ℕ). x < log.harts) is.hart (hart_within log.harts line.what (line_keeps log lawful i line is.at).within);
  arcs = λ i h m line is u n arc.
      let keeps = line_keeps log lawful i line is.at in
      let holds = λ (P : Point → Type 0) (all : AllByRecursion P (points_from 0 line.arcs)). arc_holds P line.arcs u n arc all in (
        leb-false log.harts u (holds (λ (point : Point). leb log.harts point.hart ≡ false) keeps.named),
        eqb-false u h (rw (← is.hart) (holds (λ (point : Point). eqb point.hart (hart_of line.what) ≡ false) keeps.others)),
        (holds (IsPointInForm most_written) keeps.form).1,
        subst (λ (r : ℕ). n ≤ r) (records_at log u i) (ltb-false (records_in u (front_of log i)) n (holds (λ (point : Point). ltb (records_in point.hart (front_of log i)) point.number ≡ false) keeps.come)),
      );
  notices = λ i h m line is u n told.
      let keeps = subst (λ (what : Record). KeepsFlow log.harts (front_of log i) what (points_from 0 line.arcs)) told (line_keeps log lawful i line is.at) in
      let later = told_later log.harts (front_of log i) h u n (points_from 0 line.arcs) keeps in
      (later.0, later.1, subst (λ (r : ℕ). r < n) (records_at log u i) later.2);
  closed = λ i h m line is u n notice.
      let keeps = line_keeps log lawful i line is.at in
      let k = notice.0 in
      let of = notice.1 in
      let there = notice.2 in
      let before : k < i = omega (arith, line_number_of log.lines k h m of there, line_number_of log.lines i h (m + 1) line is, line_number_next log.lines h m) in
      let waits = λ (e : Entry). is_pending (front_of log i) e && is_row_of h e in
      let settled : list_any waits (front_of log i) ≡ false = rw (← is.hart) keeps.settled in
      let free = fails_before waits log i k of settled there.at before in
      let shown : waits (row (notice_of h u n) (points_from 0 of.arcs)) ≡ false = subst (λ (what : Record). waits (row what (points_from 0 of.arcs)) ≡ false) notice.3 free in
      subst (λ (r : ℕ). n ≤ r) (records_at log u i) (has_come (front_of log i) h u n (points_from 0 of.arcs) shown);
}
