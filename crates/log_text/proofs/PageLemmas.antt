-- Some page that passes a test, and the table of pages.
use Rattle.std.proofs.Common.{◌≡◌, ℕ, zero, suc, ◌+◌, ◌<◌, inl, inr, Bool, true, false, not, cond, List, length, set, get_or, refl, sym, ◌∙◌, ap, arith}
use mathlib.Core.Bool.{beq}
use Rattle.std.proofs.Math.Path.{fun_ext}
use Rattle.std.proofs.lemmas.Bool.{cases_lt, cases_eq}
use Rattle.std.proofs.lemmas.List.{get_or-set_same, get_or-set_other, get_or_read}
use Rattle.pl_base.proofs.Pages.{marked-here, marked-before, marked-past, count_marked}
use Rattle.log_text.specs.Pages.{some_page, holds_at}
use Rattle.pl_base.specs.Pages.{marked, count_below}

-- a write to a table of pages
pub holds_at-set : (pages : List Bool) (at : ℕ) (answer : Bool) → at < length pages → holds_at (set pages at answer) ≡ marked (holds_at pages) at 1 answer
holds_at-set pages at answer within = fun_ext (λ k.
    elim (cases_eq k at) [
      | inl here ↦ rw here (get_or-set_same pages at answer false within ∙ sym (marked-here (holds_at pages) at 1 answer at (omega arith) (omega arith)))
      | inr other ↦ get_or-set_other pages at k answer false other ∙ elim (cases_lt k at) [
        | inl before ↦ sym (marked-before (holds_at pages) at 1 answer k before)
        | inr from ↦ sym (marked-past (holds_at pages) at 1 answer k (omega arith))
      ]
    ])

-- Pages that pass, one more

pub some_page-found : (test : ℕ → Bool) (first count : ℕ) → 0 < count → test first ≡ true → some_page test first count ≡ true
unfolding some_page
some_page-found test first zero some passes = absurd (omega arith)
some_page-found test first (suc count) some passes = rw passes refl

pub some_page-passed : (test : ℕ → Bool) (first next count rest : ℕ) → next ≡ first + 1 → count ≡ rest + 1 → test first ≡ false → some_page test first count ≡ some_page test next rest
unfolding some_page
some_page-passed test first next zero rest one more fails = absurd (omega arith)
some_page-passed test first next (suc count) rest one more fails =
    let same : suc first ≡ next = omega arith in
    let left : count ≡ rest = omega arith in
    rw (fails, same, left) refl

pub some_page-none : (test : ℕ → Bool) (first count : ℕ) → count ≡ 0 → some_page test first count ≡ false
unfolding some_page
some_page-none test first count none = rw none refl

-- A write to one page of a table

differs : (was answer : Bool) → beq was answer ≡ false → was ≡ not answer
differs true true e = absurd (cc)
differs true false e = refl
differs false true e = refl
differs false false e = absurd (cc)

-- what the count is then
pub count_set : (pages : List Bool) (all at : ℕ) (was answer : Bool) → length pages ≡ all → at < all → was ≡ get_or pages at was → beq was answer ≡ false →
    count_below (holds_at (set pages at answer)) all + cond (not answer) 1 0 ≡ count_below (holds_at pages) all + cond answer 1 0
count_set pages all at was answer long within read differ =
    let inside : at < length pages = omega arith in
    let before : holds_at pages at ≡ not answer = sym (get_or_read pages at was inside read false) ∙ differs was answer differ in
    rw (holds_at-set pages at answer inside)
    (ap (λ b. count_below (marked (holds_at pages) at 1 answer) all + cond b 1 0) (sym before) ∙ count_marked (holds_at pages) at answer all within)
