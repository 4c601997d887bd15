-- What is kept once a line is added.
use Rattle.std.proofs.Common.{◌≡◌, ℕ, ◌+◌, ◌%◌, ◌<◌, ◌≤◌, max, Bool, true, false, cond, ◌&&◌, ◌||◌, eqb, leb, List, [], ◌∷◌, ◌++◌, get_or, set, length, count_by, Option, Some, None, inl, inr, refl, sym, ap, ◌∙◌, subst, arith}
use Rattle.std.specs.List.{list_any}
use Rattle.std.proofs.Math.Bool.{or-false}
use Rattle.std.proofs.lemmas.Bool.{both_ways, and_left, and_right, and_parts, and_from, or_left, or_right, or_cases, or_parts, cases_eq, eqb-true, eq-eqb, ne_eqb, leb-false, ltb-false}
use Rattle.std.proofs.lemmas.List.{get_or-set_same, get_or-set_other}
use Rattle.std.proofs.lemmas.List.Folds.{list_any-append}
use Rattle.std.proofs.lemmas.List.Sums.{fold_push, sum_by_push, sum_by-le-sum_by}
use Rattle.pl_event.specs.Numbers.{hart_of}
use Rattle.pl_event.specs.declared.event.Event.{Event}
use Rattle.pl_event.specs.declared.event.Kind.{Kind}
use Rattle.pl_event.specs.declared.event.Kind.TheVariants as kinds
use Rattle.pl_event.specs.declared.log.PageRun.{PageRun}
use Rattle.pl_event.specs.declared.log.Point.{Point}
use Rattle.pl_event.specs.declared.log.Record.{Record}
use Rattle.pl_event.specs.declared.log.Record.TheVariants as entry
use Rattle.log_text.specs.declared.page_set.PageSet.{PageSet}
use Rattle.log_text.specs.declared.tally.Tally.{Tally}
use Rattle.log_text.specs.Pages.{holds_at}
use Rattle.pl_base.specs.Pages.{marked}
use Rattle.log_grammar.specs.Spelling.{Entry, page, row}
use Rattle.log_text.specs.Tally.{Keeps, AddsKind, MapsInside, tells, is_told}
use Rattle.log_text.specs.WellFormed.{is_row, is_row_of, records_in, end_after, mapped_after, is_end_of, is_notice_of, is_waiting, is_bad_map, breaks_records, breaks, broken, rules_in_order}
use Rattle.pl_event.specs.Mapping.{mapped_by}
use Rattle.pl_event.specs.Runs.{ends_hart}
use Rattle.log_text.proofs.RuleLemmas.{IsSound, find-None, hart_of-low}
use Rattle.log_text.proofs.TallyLemmas.{waiting_by_told}

-- Lists with one more line

list_any_push : {X : Type 0} (p : X → Bool) (xs : List X) (x : X) → list_any p (xs ++ x ∷ []) ≡ (list_any p xs || p x)
list_any_push p xs x = list_any-append p xs (x ∷ []) ∙ ap (λ b. list_any p xs || b) (or-false (p x))

list_any_push_no : {X : Type 0} (p : X → Bool) (xs : List X) (x : X) → p x ≡ false → list_any p (xs ++ x ∷ []) ≡ list_any p xs
list_any_push_no p xs x fails = list_any_push p xs x ∙ ap (λ b. list_any p xs || b) fails ∙ or-false (list_any p xs)

list_any_push_old : {X : Type 0} (p : X → Bool) (xs : List X) (x : X) → list_any p xs ≡ true → list_any p (xs ++ x ∷ []) ≡ true
list_any_push_old p xs x passes = list_any_push p xs x ∙ or_left (list_any p xs) (p x) passes

list_any_push_new : {X : Type 0} (p : X → Bool) (xs : List X) (x : X) → p x ≡ true → list_any p (xs ++ x ∷ []) ≡ true
list_any_push_new p xs x passes = list_any_push p xs x ∙ or_right (list_any p xs) (p x) passes

count_by_push : {X : Type 0} (p : X → Bool) (xs : List X) (x : X) → count_by p (xs ++ x ∷ []) ≡ count_by p xs + cond (p x) 1 0
count_by_push p xs x = sum_by_push (λ y. cond (p y) 1 0) xs x

count_by_push_no : {X : Type 0} (p : X → Bool) (xs : List X) (x : X) → p x ≡ false → count_by p (xs ++ x ∷ []) ≡ count_by p xs
count_by_push_no p xs x fails = count_by_push p xs x ∙ ap (λ b. count_by p xs + cond b 1 0) fails ∙ omega arith

count_by_push_yes : {X : Type 0} (p : X → Bool) (xs : List X) (x : X) → p x ≡ true → count_by p (xs ++ x ∷ []) ≡ count_by p xs + 1
count_by_push_yes p xs x passes = count_by_push p xs x ∙ ap (λ b. count_by p xs + cond b 1 0) passes

count_by_push_most : {X : Type 0} (p : X → Bool) (xs : List X) (x : X) → count_by p xs ≤ count_by p (xs ++ x ∷ [])
count_by_push_most p xs x = omega (arith, count_by_push p xs x)

-- A run of pages

pub Keeps-page : (old : Tally) (before : List Entry) (run : PageRun) (end : ℕ) (pages : PageSet) → Keeps old before →
    end ≡ run.first + run.count → holds_at pages.pages.items ≡ marked (holds_at old.pages.pages.items) run.first run.count true →
    Keeps (record old { next_page = end; pages = pages }) (before ++ page run ∷ [])
Keeps-page old before run end pages keeps ends marks = record {
  some = keeps.some;
  few = keeps.few;
  end = ends ∙ sym (fold_push end_after 0 before (page run));
  mapped = marks ∙ ap (λ (test : ℕ → Bool). marked test run.first run.count true) keeps.mapped ∙ sym (fold_push mapped_after (λ page. false) before (page run));
  rows = keeps.rows ∙ sym (count_by_push_no is_row before (page run) refl);
  short = rw (count_by_push_no is_row before (page run) refl) keeps.short;
  numbers = λ hart low. keeps.numbers hart low ∙ sym (count_by_push_no (is_row_of hart) before (page run) refl);
  ended = λ hart low. keeps.ended hart low ∙ sym (list_any_push_no (is_end_of hart) before (page run) refl);
  there = λ hart point low kept. list_any_push_old (tells hart point) before (page run) (keeps.there hart point low kept);
  last = λ hart point told late. keeps.last hart point (sym (list_any_push_no (tells hart point) before (page run) refl) ∙ told)
      (rw (← count_by_push_no (is_row_of point.hart) before (page run) refl) late);
  low = λ hart point told. keeps.low hart point (sym (list_any_push_no (tells hart point) before (page run) refl) ∙ told);
  named = λ hart number low most. list_any_push_no (is_notice_of hart number) before (page run) refl ∙ keeps.named hart number low most;
}

-- a run of pages that breaks no rule ends in memory
pub page_inside : (harts : ℕ) (before : List Entry) (run : PageRun) → broken harts before (page run) ≡ None → run.first + run.count ≤ 4096
page_inside harts before run none =
    let sound = or_parts _ _ (find-None (breaks harts before (page run)) rules_in_order none) in
    let counted = or_parts _ _ sound.0 in
    ltb-false 4096 (run.first + run.count) (or_parts _ _ counted.0).1

-- Records

-- the harts of a record that the run has are below 8
pub notice_low : (harts : ℕ) (before : List Entry) (own : ℕ) (of : Point) (arcs : List Point) → harts ≤ 8 → IsSound harts before (entry.Notice own of) arcs → (own < 8) × (of.hart < 8)
notice_low harts before own of arcs few sound =
    let within : (leb harts own ≡ false) × (leb harts of.hart ≡ false) = or_parts (leb harts own) (leb harts of.hart) (or_parts _ _ sound.within).0 in
    (omega (arith, leb-false harts own within.0), omega (arith, leb-false harts of.hart within.1))

pub event_low : (harts : ℕ) (before : List Entry) (event : Event) (arcs : List Point) → harts ≤ 8 → IsSound harts before (entry.Event event) arcs → event.hart < 8
event_low harts before event arcs few sound = hart_of-low harts (entry.Event event) few (or_parts _ _ sound.within).0

-- a hart has no more records than there are
row_at_most : (hart : ℕ) (e : Entry) → cond (is_row_of hart e) 1 0 ≤ cond (is_row e) 1 0
row_at_most hart (page run) = omega arith
row_at_most hart (row what arcs) = elim (eqb (hart_of what) hart) as (λ b. cond b 1 0 ≤ 1) [ true ↦ omega arith | false ↦ omega arith ]

records_in-le : (hart : ℕ) (before : List Entry) → records_in hart before ≤ count_by is_row before
records_in-le hart before = sum_by-le-sum_by (λ e. cond (is_row_of hart e) 1 0) (λ e. cond (is_row e) 1 0) before (row_at_most hart)

one_more : (n m : ℕ) → n < 2000000 → n ≡ m → (n + 1) % 4294967296 ≡ m + 1
one_more n m few same = omega arith

-- the counts with one more record
records_added : (old : Tally) (before : List Entry) (what : Record) (arcs : List Point) → Keeps old before → breaks_records before ≡ false →
    (old.records + 1) % 4294967296 ≡ count_by is_row (before ++ row what arcs ∷ [])
records_added old before what arcs keeps room =
    let few = leb-false 2000000 (count_by is_row before) room in
    let rows = keeps.rows in
    one_more old.records (count_by is_row before) (omega arith) rows ∙ sym (count_by_push_yes is_row before (row what arcs) refl)

short_added : (before : List Entry) (what : Record) (arcs : List Point) → breaks_records before ≡ false → count_by is_row (before ++ row what arcs ∷ []) ≤ 2000000
short_added before what arcs room =
    let few = leb-false 2000000 (count_by is_row before) room in
    let more = count_by_push_yes is_row before (row what arcs) refl in
    omega arith

numbers_added : (old : Tally) (before : List Entry) (what : Record) (arcs : List Point) (hart : ℕ) → Keeps old before → breaks_records before ≡ false →
    length old.numbers ≡ 8 → hart_of what < 8 → hart < 8 →
    get_or (set old.numbers (hart_of what) ((get_or old.numbers (hart_of what) 0 + 1) % 4294967296)) hart 0 ≡ records_in hart (before ++ row what arcs ∷ [])
numbers_added old before what arcs hart keeps room long own low =
    let few = leb-false 2000000 (count_by is_row before) room in
    let most = records_in-le (hart_of what) before in
    let counted = keeps.numbers (hart_of what) own in
    elim (cases_eq hart (hart_of what)) [
      | inl same ↦ rw same
          (get_or-set_same old.numbers (hart_of what) ((get_or old.numbers (hart_of what) 0 + 1) % 4294967296) 0 (omega arith)
          ∙ one_more (get_or old.numbers (hart_of what) 0) (records_in (hart_of what) before) (omega arith) counted
          ∙ sym (count_by_push_yes (is_row_of (hart_of what)) before (row what arcs) (eq-eqb (hart_of what) (hart_of what) refl)))
      | inr other ↦
          get_or-set_other old.numbers (hart_of what) hart ((get_or old.numbers (hart_of what) 0 + 1) % 4294967296) 0 other
          ∙ keeps.numbers hart low
          ∙ sym (count_by_push_no (is_row_of hart) before (row what arcs) (ne_eqb (hart_of what) hart (λ e. other (sym e))))
    ]

-- a record that has not come had not come before
late_before : (before : List Entry) (e : Entry) (point : Point) → records_in point.hart (before ++ e ∷ []) < point.number → records_in point.hart before < point.number
late_before before e point late = omega (arith, count_by_push_most (is_row_of point.hart) before e)

-- a slot of another hart keeps its notice, and the record's own hart had none that waits
last_kept : (old : Tally) (before : List Entry) (own : ℕ) (notice : Option Point) (hart : ℕ) (point : Point) → Keeps old before → is_waiting before own ≡ false →
    is_told before hart point ≡ true → records_in point.hart before < point.number → get_or (set old.notices own notice) hart None ≡ Some point
last_kept old before own notice hart point keeps settled told late =
    elim (cases_eq hart own) [
      | inl same ↦ let waits = rw same at (waiting_by_told before hart point told late) in absurd (both_ways (is_waiting before own) settled waits)
      | inr other ↦ get_or-set_other old.notices own hart notice None other ∙ keeps.last hart point told late
    ]

-- Events

-- an event that ends its hart marks it
ended_added : (old : Tally) (before : List Entry) (event : Event) (arcs : List Point) (hart : ℕ) → Keeps old before → length old.ended ≡ 8 → event.hart < 8 → hart < 8 →
    get_or (cond (ends_hart event.kind) (set old.ended event.hart true) old.ended) hart false ≡ list_any (is_end_of hart) (before ++ row (entry.Event event) arcs ∷ [])
ended_added old before event arcs hart keeps long own low =
    marked_end (ends_hart event.kind) ∙ sym (list_any_push (is_end_of hart) before (row (entry.Event event) arcs))
  where
    marked_end : (ends : Bool) → get_or (cond ends (set old.ended event.hart true) old.ended) hart false ≡ (list_any (is_end_of hart) before || (ends && eqb event.hart hart))
    marked_end false = keeps.ended hart low ∙ sym (or-false (list_any (is_end_of hart) before))
    marked_end true = elim (cases_eq hart event.hart) [
      | inl same ↦ rw same (get_or-set_same old.ended event.hart true false (omega arith) ∙ sym (or_right (list_any (is_end_of event.hart) before) (eqb event.hart event.hart) (eq-eqb event.hart event.hart refl)))
      | inr other ↦ get_or-set_other old.ended event.hart hart true false other ∙ keeps.ended hart low
          ∙ rw (ne_eqb event.hart hart (λ e. other (sym e))) (sym (or-false (list_any (is_end_of hart) before)))
    ]

maps_inside : (before : List Entry) (kind : Kind) → is_bad_map before kind ≡ false → MapsInside kind
maps_inside before (kinds.Mp first count) sound = ltb-false 4096 (first + count) (or_parts _ _ (or_parts _ _ sound).0).0
maps_inside before (kinds.Um first count) sound = ltb-false 4096 (first + count) (or_parts _ _ sound).0
maps_inside before _ sound = tt

Keeps-event : (old : Tally) (before : List Entry) (event : Event) (arcs : List Point) (ended : List Bool) (pages : PageSet) → Keeps old before →
    IsSound old.harts before (entry.Event event) arcs → length old.numbers ≡ 8 → length old.ended ≡ 8 → length old.notices ≡ 8 →
    ended ≡ cond (ends_hart event.kind) (set old.ended event.hart true) old.ended → holds_at pages.pages.items ≡ mapped_by (holds_at old.pages.pages.items) event.kind →
    Keeps (record old {
      records = (old.records + 1) % 4294967296;
      numbers = set old.numbers event.hart ((get_or old.numbers event.hart 0 + 1) % 4294967296);
      notices = set old.notices event.hart None;
      ended = ended;
      pages = pages;
    }) (before ++ row (entry.Event event) arcs ∷ [])
Keeps-event old before event arcs ended pages keeps sound long_numbers long_ended long_notices ends maps =
    let e : Entry = row (entry.Event event) arcs in
    let own : event.hart < 8 = event_low old.harts before event arcs keeps.few sound in
    let told_before = λ (hart : ℕ) (point : Point) (told : is_told (before ++ e ∷ []) hart point ≡ true). sym (list_any_push_no (tells hart point) before e refl) ∙ told in
    record {
      some = keeps.some;
      few = keeps.few;
      end = keeps.end ∙ sym (fold_push end_after 0 before e);
      mapped = maps ∙ ap (λ (test : ℕ → Bool). mapped_by test event.kind) keeps.mapped ∙ sym (fold_push mapped_after (λ page. false) before e);
      rows = records_added old before (entry.Event event) arcs keeps sound.room;
      short = short_added before (entry.Event event) arcs sound.room;
      numbers = λ hart low. numbers_added old before (entry.Event event) arcs hart keeps sound.room long_numbers own low;
      ended = λ hart low. ap (λ (l : List Bool). get_or l hart false) ends ∙ ended_added old before event arcs hart keeps long_ended own low;
      there = λ hart point low kept. elim (cases_eq hart event.hart) [
        | inl same ↦
            let at_own = rw same at kept in
            let none = get_or-set_same old.notices event.hart None None (omega arith) in
            absurd (cc)
        | inr other ↦ list_any_push_old (tells hart point) before e (keeps.there hart point low (sym (get_or-set_other old.notices event.hart hart None None other) ∙ kept))
      ];
      last = λ hart point told late. last_kept old before event.hart None hart point keeps sound.settled (told_before hart point told) (late_before before e point late);
      low = λ hart point told. keeps.low hart point (told_before hart point told);
      named = λ hart number low most. list_any_push_no (is_notice_of hart number) before e refl ∙ keeps.named hart number low most;
    }

-- the same, as the code adds an event
pub Keeps-added : (old new : Tally) (before : List Entry) (event : Event) (arcs : List Point) (at : ℕ) → Keeps old before → IsSound old.harts before (entry.Event event) arcs →
    length old.numbers ≡ 8 → length old.ended ≡ 8 → length old.notices ≡ 8 → at ≡ event.hart →
    AddsKind (record old {
      records = (old.records + 1) % 4294967296;
      numbers = set old.numbers at ((get_or old.numbers at 0 + 1) % 4294967296);
      notices = set old.notices at None;
    }) at event.kind new → Keeps new (before ++ row (entry.Event event) arcs ∷ [])
Keeps-added old new before event arcs at keeps sound long_numbers long_ended long_notices same added =
    let adds = rw same at added in
    subst (λ (t : Tally). Keeps t (before ++ row (entry.Event event) arcs ∷ [])) (sym adds.rest)
    (Keeps-event old before event arcs new.ended new.pages keeps sound long_numbers long_ended long_notices adds.ended (adds.mapped (maps_inside before event.kind sound.maps)))

-- Notices

same_point : (a b : Point) → a.hart ≡ b.hart → a.number ≡ b.number → a ≡ b
same_point a b same counted =
    ap (λ (h : ℕ). let p : Point = record { hart = h; number = a.number } in p) same ∙ ap (λ (n : ℕ). let p : Point = record { hart = b.hart; number = n } in p) counted

Keeps-notice : (old : Tally) (before : List Entry) (own : ℕ) (of : Point) (arcs : List Point) → Keeps old before →
    IsSound old.harts before (entry.Notice own of) arcs → length old.numbers ≡ 8 → length old.named ≡ 8 → length old.notices ≡ 8 →
    Keeps (record old {
      records = (old.records + 1) % 4294967296;
      numbers = set old.numbers own ((get_or old.numbers own 0 + 1) % 4294967296);
      notices = set old.notices own (Some of);
      named = set old.named of.hart (max (get_or old.named of.hart 0) of.number);
    }) (before ++ row (entry.Notice own of) arcs ∷ [])
Keeps-notice old before own of arcs keeps sound long_numbers long_named long_notices =
    let e : Entry = row (entry.Notice own of) arcs in
    let low_harts = notice_low old.harts before own of arcs keeps.few sound in
    let own_low : own < 8 = low_harts.0 in
    let of_low : of.hart < 8 = low_harts.1 in
    let told_how = λ (hart : ℕ) (point : Point) (told : is_told (before ++ e ∷ []) hart point ≡ true).
    or_cases (is_told before hart point) (tells hart point e) (sym (list_any_push (tells hart point) before e) ∙ told) in
    let parts_of = λ (hart : ℕ) (point : Point) (here : tells hart point e ≡ true). and_parts (eqb own hart) (eqb of.hart point.hart && eqb of.number point.number) here in
    record {
      some = keeps.some;
      few = keeps.few;
      end = keeps.end ∙ sym (fold_push end_after 0 before e);
      mapped = keeps.mapped ∙ sym (fold_push mapped_after (λ page. false) before e);
      rows = records_added old before (entry.Notice own of) arcs keeps sound.room;
      short = short_added before (entry.Notice own of) arcs sound.room;
      numbers = λ hart low. numbers_added old before (entry.Notice own of) arcs hart keeps sound.room long_numbers own_low low;
      ended = λ hart low. keeps.ended hart low ∙ sym (list_any_push_no (is_end_of hart) before e refl);
      there = λ hart point low kept. elim (cases_eq hart own) [
        | inl same ↦
            let at_own = rw same at kept in
            let put = get_or-set_same old.notices own (Some of) None (omega arith) in
            let here : of ≡ point = cc in
            list_any_push_new (tells hart point) before e
            (and_from _ _ (eq-eqb own hart (sym same)) (and_from _ _ (eq-eqb of.hart point.hart (ap (λ (p : Point). p.hart) here)) (eq-eqb of.number point.number (ap (λ (p : Point). p.number) here))))
        | inr other ↦ list_any_push_old (tells hart point) before e (keeps.there hart point low (sym (get_or-set_other old.notices own hart (Some of) None other) ∙ kept))
      ];
      last = λ hart point told late. elim (told_how hart point told) [
        | inl old_told ↦ last_kept old before own (Some of) hart point keeps sound.settled old_told (late_before before e point late)
        | inr here ↦
            let parts = parts_of hart point here in
            let both = and_parts (eqb of.hart point.hart) (eqb of.number point.number) parts.1 in
            let same : hart ≡ own = sym (eqb-true own hart parts.0) in
            rw same (get_or-set_same old.notices own (Some of) None (omega arith) ∙ ap Some (same_point of point (eqb-true of.hart point.hart both.0) (eqb-true of.number point.number both.1)))
      ];
      low = λ hart point told. elim (told_how hart point told) [
        | inl old_told ↦ keeps.low hart point old_told
        | inr here ↦
            let parts = parts_of hart point here in
            let both = and_parts (eqb of.hart point.hart) (eqb of.number point.number) parts.1 in
            (omega (arith, eqb-true own hart parts.0), omega (arith, eqb-true of.hart point.hart both.0))
      ];
      named = λ hart number low most. elim (cases_eq hart of.hart) [
        | inl same ↦
            let at_of = rw same at most in
            let value = get_or-set_same old.named of.hart (max (get_or old.named of.hart 0) of.number) 0 (omega arith) in
            let above : max (get_or old.named of.hart 0) of.number < number = omega arith in
            list_any_push_no (is_notice_of hart number) before e (and_right (eqb of.hart hart) (eqb of.number number) (ne_eqb of.number number (λ e. omega arith)))
            ∙ keeps.named hart number low (rw same (omega arith))
        | inr other ↦
            list_any_push_no (is_notice_of hart number) before e (and_left (eqb of.hart hart) (eqb of.number number) (ne_eqb of.hart hart (λ e. other (sym e))))
            ∙ keeps.named hart number low (rw (← get_or-set_other old.named of.hart hart (max (get_or old.named of.hart 0) of.number) 0 other) most)
      ];
    }

-- the same, as the code adds a notice
pub Keeps-told : (old : Tally) (before : List Entry) (own : ℕ) (of : Point) (arcs : List Point) (at to most : ℕ) → Keeps old before → IsSound old.harts before (entry.Notice own of) arcs →
    length old.numbers ≡ 8 → length old.named ≡ 8 → length old.notices ≡ 8 → at ≡ own → to ≡ of.hart → most ≡ max (get_or old.named to 0) of.number →
    Keeps (record old {
      records = (old.records + 1) % 4294967296;
      numbers = set old.numbers at ((get_or old.numbers at 0 + 1) % 4294967296);
      notices = set old.notices at (Some of);
      named = set old.named to most;
    }) (before ++ row (entry.Notice own of) arcs ∷ [])
Keeps-told old before own of arcs at to most keeps sound long_numbers long_named long_notices same named highest =
    rw (highest, same, named) (Keeps-notice old before own of arcs keeps sound long_numbers long_named long_notices)
