-- Pages that are among others, pages that are marked, and how many pass a test.
use Rattle.std.proofs.Common.{◌≡◌, ◌≢◌, ℕ, zero, suc, ◌+◌, ◌<◌, ◌≤◌, ◌⊎◌, inl, inr, Bool, true, false, cond, min, refl, sym, ap, ◌∙◌, arith}
use Rattle.std.proofs.Math.Path.{fun_ext}
use Rattle.std.proofs.lemmas.Bool.{le-leb, lt-leb, lt-ltb, le-ltb, cases_lt, cases_eq, and_left, and_right, and_from}
use Rattle.pl_base.specs.Pages.{is_among, marked, EachPage, count_below}

-- What `is_among` says

pub among : (first count k : ℕ) → first ≤ k → k < first + count → is_among first count k ≡ true
among first count k from within = and_from _ _ (le-leb first k from) (lt-ltb k (first + count) within)

pub not_among_before : (first count k : ℕ) → k < first → is_among first count k ≡ false
not_among_before first count k before = and_left _ _ (lt-leb first k before)

pub not_among_past : (first count k : ℕ) → first + count ≤ k → is_among first count k ≡ false
not_among_past first count k past = and_right _ _ (le-ltb k (first + count) past)

-- a page is among them, before them or past them
pub place : (first count k : ℕ) → ((first ≤ k) × (k < first + count)) ⊎ ((k < first) ⊎ (first + count ≤ k))
place first count k =
    elim (cases_lt k first) [
      | inl before ↦ inr (inl before)
      | inr from ↦ elim (cases_lt k (first + count)) [ inl within ↦ inl (from, within) | inr past ↦ inr (inr past) ]
    ]

-- none is among none
pub none_among : (first k : ℕ) → is_among first 0 k ≡ false
none_among first k = elim (place first 0 k) [
  | inl (from, within) ↦ absurd (omega arith)
  | inr (inl before) ↦ not_among_before first 0 k before
  | inr (inr past) ↦ not_among_past first 0 k past
]

-- one more changes nothing for another page
pub among_more : (first count next k : ℕ) → next ≡ first + count → k ≢ next → is_among first (count + 1) k ≡ is_among first count k
among_more first count next k is other =
    elim (place first count k) [
      | inl (from, within) ↦ among first (count + 1) k from (omega arith) ∙ sym (among first count k from within)
      | inr (inl before) ↦ not_among_before first (count + 1) k before ∙ sym (not_among_before first count k before)
      | inr (inr past) ↦ not_among_past first (count + 1) k (omega arith) ∙ sym (not_among_past first count k past)
    ]

-- Marks

pub marked-here : (test : ℕ → Bool) (first count : ℕ) (answer : Bool) (k : ℕ) → first ≤ k → k < first + count → marked test first count answer k ≡ answer
marked-here test first count answer k from within = rw (among first count k from within) refl

pub marked-before : (test : ℕ → Bool) (first count : ℕ) (answer : Bool) (k : ℕ) → k < first → marked test first count answer k ≡ test k
marked-before test first count answer k before = rw (not_among_before first count k before) refl

pub marked-past : (test : ℕ → Bool) (first count : ℕ) (answer : Bool) (k : ℕ) → first + count ≤ k → marked test first count answer k ≡ test k
marked-past test first count answer k past = rw (not_among_past first count k past) refl

-- one more page after those that are marked
pub marked_more : (test : ℕ → Bool) (first count at : ℕ) (answer : Bool) → at ≡ first + count →
    marked (marked test first count answer) at 1 answer ≡ marked test first (count + 1) answer
marked_more test first count at answer same = fun_ext (λ k.
    elim (place first count k) [
      | inl (from, within) ↦ marked-before (marked test first count answer) at 1 answer k (omega arith) ∙ marked-here test first count answer k from within
          ∙ sym (marked-here test first (count + 1) answer k from (omega arith))
      | inr (inl before) ↦ marked-before (marked test first count answer) at 1 answer k (omega arith) ∙ marked-before test first count answer k before
          ∙ sym (marked-before test first (count + 1) answer k before)
      | inr (inr past) ↦ elim (cases_lt k (at + 1)) [
        | inl here ↦ marked-here (marked test first count answer) at 1 answer k (omega arith) here ∙ sym (marked-here test first (count + 1) answer k (omega arith) (omega arith))
        | inr beyond ↦ marked-past (marked test first count answer) at 1 answer k beyond ∙ marked-past test first count answer k past
            ∙ sym (marked-past test first (count + 1) answer k (omega arith))
      ]
    ])

-- Counts

abbrev bit : Bool → ℕ
bit b = cond b 1 0

pub count_below-le : (test : ℕ → Bool) (n : ℕ) → count_below test n ≤ n
unfolding count_below
count_below-le test zero = omega arith
count_below-le test (suc n) =
    let before = count_below-le test n in
    elim (test n) as (λ b. count_below test n + cond b 1 0 ≤ suc n) [ true ↦ omega arith | false ↦ omega arith ]

-- tests that agree below a number have as many pages there
pub count_like : (s t : ℕ → Bool) (n : ℕ) → ((k : ℕ) → k < n → s k ≡ t k) → count_below s n ≡ count_below t n
unfolding count_below
count_like s t zero same = refl
count_like s t (suc n) same =
    let before : count_below s n ≡ count_below t n = count_like s t n (λ k under. same k (omega arith)) in
    let here : bit (s n) ≡ bit (t n) = ap bit (same n (omega arith)) in
    omega (arith, before, here)

-- where no page passes, none is counted
pub count_failing : (test : ℕ → Bool) (n : ℕ) → ((k : ℕ) → test k ≡ false) → count_below test n ≡ 0
unfolding count_below
count_failing test zero fails = refl
count_failing test (suc n) fails = rw (fails n) (omega (arith, count_failing test n fails))

pub count_none : (n : ℕ) → count_below (λ page. false) n ≡ 0
count_none n = count_failing (λ page. false) n (λ k. refl)

-- marking pages that did not pass adds them to the count
pub count_more : (test : ℕ → Bool) (first count n : ℕ) → EachPage test first count false →
    count_below (marked test first count true) n + min n first ≡ count_below test n + min n (first + count)
unfolding count_below
count_more test first count zero free = omega arith
count_more test first count (suc n) free =
    let before = count_more test first count n free in
    elim (place first count n) [
      | inl (from, within) ↦ rw (among first count n from within, free n from within) (omega (arith, before, from, within))
      | inr (inl early) ↦ rw (not_among_before first count n early) (omega (arith, before, early))
      | inr (inr past) ↦ rw (not_among_past first count n past) (omega (arith, before, past))
    ]

-- the same below a number past them
pub count_run : (test : ℕ → Bool) (first count n : ℕ) → EachPage test first count false → first + count ≤ n →
    count_below (marked test first count true) n ≡ count_below test n + count
count_run test first count n free inside = let added = count_more test first count n free in omega (arith, added, inside)

-- unmarking pages that passed takes them off
pub count_fewer : (test : ℕ → Bool) (first count n : ℕ) → EachPage test first count true →
    count_below (marked test first count false) n + min n (first + count) ≡ count_below test n + min n first
unfolding count_below
count_fewer test first count zero taken = omega arith
count_fewer test first count (suc n) taken =
    let before = count_fewer test first count n taken in
    elim (place first count n) [
      | inl (from, within) ↦ rw (among first count n from within, taken n from within) (omega (arith, before, from, within))
      | inr (inl early) ↦ rw (not_among_before first count n early) (omega (arith, before, early))
      | inr (inr past) ↦ rw (not_among_past first count n past) (omega (arith, before, past))
    ]

-- unmarking pages adds none, whatever they were
pub count_less : (test : ℕ → Bool) (first count n : ℕ) → count_below (marked test first count false) n ≤ count_below test n
unfolding count_below
count_less test first count zero = omega arith
count_less test first count (suc n) =
    let before : count_below (marked test first count false) n ≤ count_below test n = count_less test first count n in
    let here : bit (marked test first count false n) ≤ bit (test n) = fewer (is_among first count n) (test n) in
    omega (arith, before, here)
  where
    fewer : (among was : Bool) → bit (cond among false was) ≤ bit was
    fewer true true = omega arith
    fewer true false = omega arith
    fewer false was = omega arith

-- the pages below a mark
pub count_marked-below : (test : ℕ → Bool) (at : ℕ) (answer : Bool) (n : ℕ) → n ≤ at → count_below (marked test at 1 answer) n ≡ count_below test n
count_marked-below test at answer n under = count_like (marked test at 1 answer) test n (λ k below. marked-before test at 1 answer k (omega arith))

-- one page that is marked
pub count_marked : (test : ℕ → Bool) (at : ℕ) (answer : Bool) (n : ℕ) → at < n →
    count_below (marked test at 1 answer) n + cond (test at) 1 0 ≡ count_below test n + cond answer 1 0
unfolding count_below
count_marked test at answer zero under = absurd (omega arith)
count_marked test at answer (suc n) under =
    elim (cases_eq at n) [
      | inl here ↦ rw (count_marked-below test at answer n (omega arith), marked-here test at 1 answer n (omega arith) (omega arith), here) (omega arith)
      | inr other ↦
          let before = count_marked test at answer n (omega arith) in
          rw (marked-past test at 1 answer n (omega arith)) (omega arith)
    ]
