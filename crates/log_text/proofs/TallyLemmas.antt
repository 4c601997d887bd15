-- What the lines so far say of notices, and what a tally keeps of them.
use Rattle.std.proofs.Common.{◌≡◌, ℕ, ◌+◌, ◌<◌, ◌≤◌, Bool, true, false, ◌&&◌, eqb, ltb, List, get_or, Some, None, refl, sym, ◌∙◌, arith}
use Rattle.std.specs.List.{list_any}
use Rattle.std.proofs.lemmas.Bool.{false≢true, and_parts, and_from, eqb-true, eq-eqb, ltb-true, lt-ltb, false_from_ne_true, true_from_ne_false}
use Rattle.pl_event.specs.declared.log.Point.{Point}
use Rattle.pl_event.specs.declared.log.Record.TheVariants as entry
use Rattle.log_text.specs.declared.tally.Tally.{Tally}
use Rattle.log_grammar.specs.Spelling.{Entry, page, row}
use Rattle.log_text.specs.Tally.{Keeps, tells, is_told}
use Rattle.log_text.specs.WellFormed.{records_in, is_row_of, is_pending, is_waiting, has_pending, is_notice_of, is_awaited}
use Rattle.log_grammar.proofs.ArcLemmas.{same_tests}
use Rattle.log_text.proofs.RuleLemmas.{list_any_found, list_any_weaker}

-- Single lines

told_by_pending : (before : List Entry) (hart : ℕ) (e : Entry) → (is_pending before e && is_row_of hart e) ≡ true →
    (point : Point) × (tells hart point e ≡ true) × (records_in point.hart before < point.number)
told_by_pending before hart (page run) h = absurd (false≢true h)
told_by_pending before hart (row (entry.Event event) points) h = absurd (false≢true h)
told_by_pending before hart (row (entry.Notice own of) points) h =
    let parts = and_parts (ltb (records_in of.hart before) of.number) (eqb own hart) h in
    (of, and_from _ _ parts.1 (and_from _ _ (eq-eqb of.hart of.hart refl) (eq-eqb of.number of.number refl)), ltb-true (records_in of.hart before) of.number parts.0)

pending_by_told : (before : List Entry) (hart : ℕ) (point : Point) → records_in point.hart before < point.number →
    (e : Entry) → tells hart point e ≡ true → (is_pending before e && is_row_of hart e) ≡ true
pending_by_told before hart point late (page run) h = absurd (false≢true h)
pending_by_told before hart point late (row (entry.Event event) points) h = absurd (false≢true h)
pending_by_told before hart point late (row (entry.Notice own of) points) h =
    let parts = and_parts (eqb own hart) (eqb of.hart point.hart && eqb of.number point.number) h in
    let both = and_parts (eqb of.hart point.hart) (eqb of.number point.number) parts.1 in
    let same : of.hart ≡ point.hart = eqb-true of.hart point.hart both.0 in
    let counted : of.number ≡ point.number = eqb-true of.number point.number both.1 in
    and_from _ _ (rw (same, counted) (lt-ltb (records_in point.hart before) point.number late)) parts.0

some_told_by_pending : (before : List Entry) (e : Entry) → is_pending before e ≡ true →
    (hart : ℕ) × (point : Point) × (tells hart point e ≡ true) × (records_in point.hart before < point.number)
some_told_by_pending before (page run) h = absurd (false≢true h)
some_told_by_pending before (row (entry.Event event) points) h = absurd (false≢true h)
some_told_by_pending before (row (entry.Notice own of) points) h =
    (own, of, and_from _ _ (eq-eqb own own refl) (and_from _ _ (eq-eqb of.hart of.hart refl) (eq-eqb of.number of.number refl)), ltb-true (records_in of.hart before) of.number h)

told_by_notice : (hart number : ℕ) (e : Entry) → is_notice_of hart number e ≡ true →
    (own : ℕ) × (point : Point) × (tells own point e ≡ true) × (point.hart ≡ hart) × (point.number ≡ number)
told_by_notice hart number (page run) h = absurd (false≢true h)
told_by_notice hart number (row (entry.Event event) points) h = absurd (false≢true h)
told_by_notice hart number (row (entry.Notice own of) points) h =
    let both = and_parts (eqb of.hart hart) (eqb of.number number) h in
    (own, of, and_from _ _ (eq-eqb own own refl) (and_from _ _ (eq-eqb of.hart of.hart refl) (eq-eqb of.number of.number refl)), eqb-true of.hart hart both.0, eqb-true of.number number both.1)

notice_by_told : (own : ℕ) (point : Point) (e : Entry) → tells own point e ≡ true → is_notice_of point.hart point.number e ≡ true
notice_by_told own point (page run) h = absurd (false≢true h)
notice_by_told own point (row (entry.Event event) points) h = absurd (false≢true h)
notice_by_told own point (row (entry.Notice hart of) points) h = (and_parts (eqb hart own) (eqb of.hart point.hart && eqb of.number point.number) h).1

-- Lists of lines

-- a hart waits where it was told of a record that has not come
pub told_by_waiting : (before : List Entry) (hart : ℕ) → is_waiting before hart ≡ true → (point : Point) × (is_told before hart point ≡ true) × (records_in point.hart before < point.number)
told_by_waiting before hart e =
    let found = list_any_found (λ e. is_pending before e && is_row_of hart e) before e in
    let told = told_by_pending before hart found.0 found.1 in
    (told.0, found.2 (tells hart told.0) told.1, told.2)

pub waiting_by_told : (before : List Entry) (hart : ℕ) (point : Point) → is_told before hart point ≡ true → records_in point.hart before < point.number → is_waiting before hart ≡ true
waiting_by_told before hart point told late =
    list_any_weaker (tells hart point) (λ e. is_pending before e && is_row_of hart e) before (pending_by_told before hart point late) told

pub pending_by_waiting : (before : List Entry) (hart : ℕ) → is_waiting before hart ≡ true → has_pending before ≡ true
pending_by_waiting before hart e =
    list_any_weaker (λ e. is_pending before e && is_row_of hart e) (is_pending before) before (λ e h. (and_parts (is_pending before e) (is_row_of hart e) h).0) e

pub waiting_by_pending : (before : List Entry) → has_pending before ≡ true → (hart : ℕ) × (point : Point) × (is_told before hart point ≡ true) × (is_waiting before hart ≡ true)
waiting_by_pending before e =
    let found = list_any_found (is_pending before) before e in
    let told = some_told_by_pending before found.0 found.1 in
    let within = found.2 (tells told.0 told.1) told.2 in
    (told.0, told.1, within, waiting_by_told before told.0 told.1 within told.3)

pub told_by_named : (before : List Entry) (hart number : ℕ) → list_any (is_notice_of hart number) before ≡ true →
    (own : ℕ) × (point : Point) × (is_told before own point ≡ true) × (point.hart ≡ hart) × (point.number ≡ number)
told_by_named before hart number e =
    let found = list_any_found (is_notice_of hart number) before e in
    let told = told_by_notice hart number found.0 found.1 in
    (told.0, told.1, found.2 (tells told.0 told.1) told.2, told.3, told.4)

pub named_by_told : (before : List Entry) (own : ℕ) (point : Point) → is_told before own point ≡ true → list_any (is_notice_of point.hart point.number) before ≡ true
named_by_told before own point told = list_any_weaker (tells own point) (is_notice_of point.hart point.number) before (notice_by_told own point) told

-- What is kept of a hart's notice

pub is_waiting-kept : (tally : Tally) (before : List Entry) (hart : ℕ) (point : Point) → Keeps tally before → hart < 8 → get_or tally.notices hart None ≡ Some point →
    is_waiting before hart ≡ ltb (records_in point.hart before) point.number
is_waiting-kept tally before hart point keeps low kept =
    same_tests (is_waiting before hart) (ltb (records_in point.hart before) point.number)
    (λ waits.
    let told = told_by_waiting before hart waits in
    let same : told.0 ≡ point = only (sym (keeps.last hart told.0 told.1 told.2) ∙ kept) in
    rw (← same) (lt-ltb (records_in told.0.hart before) told.0.number told.2))
    (λ late. waiting_by_told before hart point (keeps.there hart point low kept) (ltb-true (records_in point.hart before) point.number late))
  where
    only : {a b : Point} → Some a ≡ Some b → a ≡ b
    only e = cc

pub is_waiting-none : (tally : Tally) (before : List Entry) (hart : ℕ) → Keeps tally before → get_or tally.notices hart None ≡ None → is_waiting before hart ≡ false
is_waiting-none tally before hart keeps none =
    false_from_ne_true (is_waiting before hart) (λ waits.
    let told = told_by_waiting before hart waits in
    let kept = keeps.last hart told.0 told.1 told.2 in
    absurd (cc))

-- What is kept of the records that notices name

pub is_awaited-none : (tally : Tally) (before : List Entry) (hart number : ℕ) → Keeps tally before → hart < 8 → number ≡ records_in hart before → get_or tally.named hart 0 ≤ number →
    is_awaited before hart ≡ false
is_awaited-none tally before hart number keeps low counted most = keeps.named hart (records_in hart before + 1) low (omega arith)

pub is_awaited-kept : (tally : Tally) (before : List Entry) (hart number : ℕ) (found : Bool) → Keeps tally before → hart < 8 → number ≡ records_in hart before →
    (found ≡ true → (own : ℕ) × (point : Point) × (own < 8) × (get_or tally.notices own None ≡ Some point) × (point.hart ≡ hart) × (point.number ≡ number + 1)) →
    (found ≡ false → (own : ℕ) (point : Point) → own < 8 → get_or tally.notices own None ≡ Some point → point.hart ≡ hart → point.number ≡ number + 1 → ⊥) →
    found ≡ is_awaited before hart
is_awaited-kept tally before hart number found keeps low counted one_is none_is =
    same_tests found (is_awaited before hart)
    (λ e.
    let one = one_is e in
    let told = keeps.there one.0 one.1 one.2 one.3 in
    let named = named_by_told before one.0 one.1 told in
    let next : one.1.number ≡ records_in hart before + 1 = omega (arith, one.5) in
    rw (one.4, next) at named)
    (λ e.
    let told = told_by_named before hart (records_in hart before + 1) e in
    let same : told.1.hart ≡ hart = told.3 in
    let next : told.1.number ≡ records_in hart before + 1 = told.4 in
    let late : records_in told.1.hart before < told.1.number = rw same (omega arith) in
    let kept = keeps.last told.0 told.1 told.2 late in
    true_from_ne_false found (λ fails. none_is fails told.0 told.1 (keeps.low told.0 told.1 told.2).0 kept same (omega arith)))
