-- Tests of lists, and the rules one by one.
use Rattle.std.proofs.Common.{◌≡◌, ℕ, zero, suc, ◌+◌, Bool, true, false, not, cond, eqb, ltb, leb, ◌<◌, ◌≤◌, ◌||◌, List, [], ◌∷◌, count_by, find, length, get_or, Option, Some, None, inl, inr, refl, ap, arith}
use Rattle.std.proofs.lemmas.Bool.{false≢true, or_cases, or_parts, or_left, or_right, ne_eqb, leb-false}
use Rattle.std.proofs.lemmas.List.Sums.{sum_by-cons}
use Rattle.std.specs.List.{list_any}
use Rattle.pl_event.specs.Numbers.{hart_of}
use Rattle.pl_event.specs.declared.log.PageRun.{PageRun}
use Rattle.pl_event.specs.declared.log.Point.{Point}
use Rattle.pl_event.specs.declared.log.Record.{Record}
use Rattle.pl_event.specs.declared.log.Record.TheVariants as entry
use Rattle.log_grammar.specs.Spelling.{Entry, row}
use Rattle.log_text.specs.declared.cause.LogCause.TheVariants.{Page}
use Rattle.log_text.specs.WellFormed.{is_row, page_end, pages_mapped, breaks_page, breaks_records, breaks_hart, breaks_ended, breaks_arc, breaks_notice, names_past, is_waiting, breaks, broken, on_event, is_bad_map, rules_in_order, rules_of_fields}

-- an element that passes, and what other tests it passes
pub list_any_found : {X : Type 0} (p : X → Bool) (xs : List X) → list_any p xs ≡ true → (x : X) × (p x ≡ true) × ((q : X → Bool) → q x ≡ true → list_any q xs ≡ true)
list_any_found p [] e = absurd (false≢true e)
list_any_found p (x ∷ xs) e =
    elim (or_cases (p x) (list_any p xs) e) [
      | inl here ↦ (x, here, λ q passes. or_left (q x) (list_any q xs) passes)
      | inr there ↦ let found = list_any_found p xs there in (found.0, found.1, λ q passes. or_right (q x) (list_any q xs) (found.2 q passes))
    ]

-- a test that is passed wherever another is
pub list_any_weaker : {X : Type 0} (p q : X → Bool) (xs : List X) → ((x : X) → p x ≡ true → q x ≡ true) → list_any p xs ≡ true → list_any q xs ≡ true
list_any_weaker p q xs implied e = let found = list_any_found p xs e in found.2 q (implied found.0 found.1)

-- some element passes where the count is not 0
pub list_any-count : {X : Type 0} (p : X → Bool) (xs : List X) → list_any p xs ≡ not (eqb (count_by p xs) 0)
list_any-count p [] = refl
list_any-count p (x ∷ xs) =
    rw (sum_by-cons (λ x. cond (p x) 1 0) x xs, list_any-count p xs) (counted (p x) (count_by p xs))
  where
    counted : (b : Bool) (n : ℕ) → (b || not (eqb n 0)) ≡ not (eqb (cond b 1 0 + n) 0)
    counted true n = rw (ne_eqb (1 + n) 0 (λ e. omega arith)) refl
    counted false n = ap (λ (m : ℕ). not (eqb m 0)) (omega arith)

-- where none is found, none passes
passed_by : {X : Type 0} (x : X) (b rest : Bool) (found : Option X) → (found ≡ None → rest ≡ false) → cond b (Some x) found ≡ None → (b || rest) ≡ false
passed_by x true rest found later none = absurd (cc)
passed_by x false rest found later none = later none

pub find-None : {X : Type 0} (p : X → Bool) (xs : List X) → find p xs ≡ None → list_any p xs ≡ false
find-None p [] none = refl
find-None p (x ∷ xs) none = passed_by x (p x) (list_any p xs) (find p xs) (find-None p xs) none

pub fails_at : {X : Type 0} (p : X → Bool) (xs : List X) (k : ℕ) (d : X) → list_any p xs ≡ false → k < length xs → p (get_or xs k d) ≡ false
fails_at p [] k d none within = absurd (omega arith)
fails_at p (x ∷ xs) zero d none within = (or_parts (p x) (list_any p xs) none).0
fails_at p (x ∷ xs) (suc k) d none within = fails_at p xs k d (or_parts (p x) (list_any p xs) none).1 (omega arith)

-- either of two tests
or_swap : (a b c d : Bool) → ((a || b) || (c || d)) ≡ ((a || c) || (b || d))
or_swap true b c d = refl
or_swap false true true d = refl
or_swap false true false d = refl
or_swap false false c d = refl

pub list_any-or : {X : Type 0} (p q : X → Bool) (xs : List X) → list_any (λ x. p x || q x) xs ≡ (list_any p xs || list_any q xs)
list_any-or p q [] = refl
list_any-or p q (x ∷ xs) = rw (list_any-or p q xs) (or_swap (p x) (q x) (list_any p xs) (list_any q xs))

-- two tests that agree wherever a third fails
pub list_any_same : {X : Type 0} (bad p q : X → Bool) (xs : List X) → ((x : X) → bad x ≡ false → p x ≡ q x) → list_any bad xs ≡ false → list_any p xs ≡ list_any q xs
list_any_same bad p q [] same none = refl
list_any_same bad p q (x ∷ xs) same none =
    let parts = or_parts (bad x) (list_any bad xs) none in
    rw (same x parts.0, list_any_same bad p q xs same parts.1) refl

-- Pages

pub breaks_page-counted : (before : List Entry) (run : PageRun) (records next mapped first count : ℕ) →
    records ≡ count_by is_row before → next ≡ page_end before → mapped ≡ pages_mapped before → first ≡ run.first → count ≡ run.count →
    (not (eqb records 0) || ltb first next || ltb 4096 (first + count) || ltb 512 (mapped + count)) ≡ breaks_page before run
breaks_page-counted before run records next mapped first count rows end pages at many =
    rw (rows, end, pages, at, many, list_any-count is_row before) refl

-- Records

-- a hart that the run has is below 8
pub hart_of-low : (harts : ℕ) (what : Record) → harts ≤ 8 → names_past harts what ≡ false → hart_of what < 8
hart_of-low harts (entry.Event event) few within = let low = leb-false harts event.hart within in omega arith
hart_of-low harts (entry.Notice hart point) few within =
    let low = leb-false harts hart (or_parts (leb harts hart) (leb harts point.hart) within).0 in omega arith

-- the rules on fields are left where no other is broken
pub broken-fields : (harts : ℕ) (before : List Entry) (what : Record) (arcs : List Point) →
    breaks_records before ≡ false → breaks_hart harts what arcs ≡ false → breaks_ended before what ≡ false →
    is_waiting before (hart_of what) ≡ false → breaks_arc before what arcs ≡ false → breaks_notice before what ≡ false →
    find (breaks harts before (row what arcs)) rules_of_fields ≡ broken harts before (row what arcs)
broken-fields harts before what arcs few within ended settled sound told = rw (few, within, ended, settled, sound, told) refl

-- what a record keeps that breaks no rule
pub record IsSound (harts : ℕ) (before : List Entry) (what : Record) (arcs : List Point) : Type 0 where
  pub room : breaks_records before ≡ false
  pub within : breaks_hart harts what arcs ≡ false
  pub settled : is_waiting before (hart_of what) ≡ false
  pub maps : on_event (is_bad_map before) what ≡ false

pub IsSound-from_broken : (harts : ℕ) (before : List Entry) (what : Record) (arcs : List Point) → broken harts before (row what arcs) ≡ None → IsSound harts before what arcs
IsSound-from_broken harts before what arcs none =
    let each = λ (k : ℕ) (within : k < 10). fails_at (breaks harts before (row what arcs)) rules_in_order k Page (find-None (breaks harts before (row what arcs)) rules_in_order none) within in
    record { room = each 1 (omega arith); within = each 2 (omega arith); settled = each 4 (omega arith); maps = each 9 (omega arith) }
