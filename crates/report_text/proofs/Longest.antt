-- The runs by recursion are the longest ones.
use Rattle.std.proofs.Common.{◌≡◌, ◌≢◌, ℕ, zero, suc, ◌+◌, ◌<◌, ◌≤◌, Bool, true, false, cond, ◌&&◌, eqb, List, [], ◌∷◌, get_or, refl, sym, ◌∙◌, ap, subst, arith, inl, inr}
use Rattle.std.specs.Prelude.{All, AllPairs, Any}
use Rattle.std.proofs.Math.Nat.{eq-or-lt_of_le}
use Rattle.std.proofs.lemmas.Bool.{eq-eqb, eqb-true}
use Rattle.std.proofs.lemmas.List.Elements.{All-nil, All-cons, All-head, All-tail, All-weaker}
use Rattle.std.proofs.lemmas.List.Kept.{AllPairs-cons}
use Rattle.lifeguard.specs.State.{Bytes, nibble_at}
use Rattle.report_text.specs.declared.runs.ByteRun.{ByteRun}
use Rattle.report_text.specs.Runs.{onto_run, runs_from, IsLongestRun, LiesIn, AreLongestRuns}

abbrev Rises : ByteRun → ByteRun → Type 0
Rises run later = run.last < later.first

pairs_head : (run : ByteRun) (runs : List ByteRun) → AllPairs Rises (run ∷ runs) → All (Rises run) runs
pairs_head run runs rising k d lt = rising 0 (suc k) d (omega arith) (omega arith)

pairs_tail : (run : ByteRun) (runs : List ByteRun) → AllPairs Rises (run ∷ runs) → AllPairs Rises runs
pairs_tail run runs rising i j d lt below = rising (suc i) (suc j) d (omega arith) (omega arith)

any_behind : (P : ByteRun → Type 0) (run : ByteRun) (runs : List ByteRun) → Any P runs → Any P (run ∷ runs)
any_behind P run runs (k, x, below, at, holds) = (suc k, x, omega arith, at, holds)

any_first : (P : ByteRun → Type 0) (run : ByteRun) (runs : List ByteRun) → P run → Any P (run ∷ runs)
any_first P run runs holds = (0, run, omega arith, refl, holds)

-- another first run in which lies what lay in the first
any_longer : (a : ℕ) (run longer : ByteRun) (runs : List ByteRun) → (LiesIn a run → LiesIn a longer) → Any (LiesIn a) (run ∷ runs) → Any (LiesIn a) (longer ∷ runs)
any_longer a run longer runs more (zero, x, below, at, holds) = any_first (LiesIn a) longer runs (more (subst (LiesIn a) (sym at) holds))
any_longer a run longer runs more (suc k, x, below, at, holds) = any_behind (LiesIn a) longer runs (k, x, omega arith, at, holds)

-- a longest run stays one with a byte more before it that has another nibble or does not touch it
earlier : (bytes : Bytes) (low high : ℕ) (run : ByteRun) → (run.first ≡ low + 1 → nibble_at bytes low ≢ run.nibble) → IsLongestRun bytes (low + 1) high run → IsLongestRun bytes low high run
earlier bytes low high run other h = record {
  from = omega (arith, h.from);
  order = h.order;
  within = h.within;
  shown = h.shown;
  same = h.same;
  before = λ _ is. elim (eq-or-lt_of_le h.from) [
    | inl touches ↦ other (sym touches) (ap (nibble_at bytes) (omega (arith, touches)) ∙ is)
    | inr apart ↦ h.before apart is
  ];
  after = h.after;
}

-- those after a run do not touch the byte before it
earlier_behind : (bytes : Bytes) (low high : ℕ) (run : ByteRun) (runs : List ByteRun) → AreLongestRuns bytes (low + 1) high (run ∷ runs) → All (IsLongestRun bytes low high) runs
earlier_behind bytes low high run runs h k d below =
    let head : IsLongestRun bytes (low + 1) high run = All-head (IsLongestRun bytes (low + 1) high) run runs h.each in
    let later : run.last < (get_or runs k d).first = pairs_head run runs h.rising k d below in
    earlier bytes low high (get_or runs k d) (λ touches. absurd (omega (arith, head.from, head.order, later, touches))) (All-tail (IsLongestRun bytes (low + 1) high) run runs h.each k d below)

-- the run in which the first byte lies is the first one
first_holds : (bytes : Bytes) (low high : ℕ) (run : ByteRun) (runs : List ByteRun) → AreLongestRuns bytes low high (run ∷ runs) → Any (LiesIn low) (run ∷ runs) → (run.first ≡ low) × (run.nibble ≡ nibble_at bytes low)
first_holds bytes low high run runs h (zero, x, below, at, lies) =
    let head : IsLongestRun bytes low high run = All-head (IsLongestRun bytes low high) run runs h.each in
    let mine : LiesIn low run = subst (LiesIn low) (sym at) lies in
    (omega (arith, head.from, mine.from), sym (head.same low mine.from mine.upto))
first_holds bytes low high run runs h (suc k, x, below, at, lies) =
    let head : IsLongestRun bytes low high run = All-head (IsLongestRun bytes low high) run runs h.each in
    let later : run.last < (get_or runs k x).first = pairs_head run runs h.rising k x (omega arith) in
    let begins : (get_or runs k x).first ≡ x.first = ap (λ (r : ByteRun). r.first) at in
    absurd (omega (arith, head.from, head.order, later, begins, lies.from))

from_behind : (bytes : Bytes) (low high : ℕ) (runs : List ByteRun) → AreLongestRuns bytes (low + 1) high runs → All (λ later. low < later.first) runs
from_behind bytes low high runs h k d below = let longest : IsLongestRun bytes (low + 1) high (get_or runs k d) = h.each k d below in omega (arith, longest.from)

-- each byte from low on is the first or one after it
whole_from : (low high : ℕ) (P : ℕ → Type 0) → P low → ((a : ℕ) → low + 1 ≤ a → a < high → P a) → (a : ℕ) → low ≤ a → a < high → P a
whole_from low high P first behind a from below = elim (eq-or-lt_of_le from) [
  | inl is ↦ subst P is first
  | inr more ↦ behind a (omega (arith, more)) below
]

none_behind : {P : ByteRun → Type 0} → Any P [] → ⊥
none_behind (k, x, below, at, holds) = omega arith

-- the first byte, as a run from it on
is_longest : (bytes : Bytes) (low high last nibble : ℕ) → low ≤ last → last < high → nibble ≢ 0 → nibble_at bytes low ≡ nibble
    → ((a : ℕ) → low + 1 ≤ a → a ≤ last → nibble_at bytes a ≡ nibble) → (last + 1 < high → nibble_at bytes (last + 1) ≢ nibble)
    → IsLongestRun bytes low high (record { first = low; last = last; nibble = nibble })
is_longest bytes low high last nibble order within shown is same after = record {
  from = omega arith;
  order = order;
  within = within;
  shown = shown;
  same = λ a from upto. whole_from low (last + 1) (λ k. nibble_at bytes k ≡ nibble) is (λ k more below. same k more (omega arith)) a from (omega arith);
  before = λ earlier. absurd (omega arith);
  after = after;
}

-- a run with the first byte and all those after it
longest_front : (bytes : Bytes) (low high last n : ℕ) (runs : List ByteRun) → IsLongestRun bytes low high (record { first = low; last = last; nibble = suc n }) → All (IsLongestRun bytes low high) runs
    → All (λ later. last < later.first) runs → AllPairs Rises runs
    → ((a : ℕ) → low + 1 ≤ a → a < high → nibble_at bytes a ≢ 0 → Any (LiesIn a) (record { first = low; last = last; nibble = suc n } ∷ runs))
    → AreLongestRuns bytes low high (record { first = low; last = last; nibble = suc n } ∷ runs)
longest_front bytes low high last n runs first behind later rising whole = record {
  each = All-cons (IsLongestRun bytes low high) _ runs first behind;
  rising = AllPairs-cons Rises _ runs later rising;
  whole = whole_from low high (λ a. nibble_at bytes a ≢ 0 → Any (LiesIn a) (record { first = low; last = last; nibble = suc n } ∷ runs))
      (λ _. any_first (LiesIn low) _ runs (record { from = omega arith; upto = first.order })) whole;
}

some_not_zero : (n m : ℕ) → m ≡ suc n → m ≢ 0
some_not_zero n m is clear = omega arith

-- no run after
longest_alone : (bytes : Bytes) (low high n : ℕ) → low < high → nibble_at bytes low ≡ suc n → AreLongestRuns bytes (low + 1) high [] → AreLongestRuns bytes low high (record { first = low; last = low; nibble = suc n } ∷ [])
longest_alone bytes low high n below is h =
    longest_front bytes low high low n []
    (is_longest bytes low high low (suc n) (omega arith) below (λ e. omega arith) is (λ a more upto. absurd (omega arith))
    (λ more same. none_behind (h.whole (low + 1) (omega arith) more (some_not_zero n _ same))))
    (All-nil _) (All-nil _) h.rising
    (λ a more within shown. any_behind (LiesIn a) _ [] (h.whole a more within shown))

-- the first run after goes on with the byte
longest_joined : (bytes : Bytes) (low high n : ℕ) (run : ByteRun) (runs : List ByteRun) → low < high → nibble_at bytes low ≡ suc n → run.first ≡ low + 1 → run.nibble ≡ suc n
    → AreLongestRuns bytes (low + 1) high (run ∷ runs) → AreLongestRuns bytes low high (record { first = low; last = run.last; nibble = suc n } ∷ runs)
longest_joined bytes low high n run runs below is touches alike h =
    let head : IsLongestRun bytes (low + 1) high run = All-head (IsLongestRun bytes (low + 1) high) run runs h.each in
    longest_front bytes low high run.last n runs
    (is_longest bytes low high run.last (suc n) (omega (arith, head.from, head.order)) head.within (λ e. omega arith) is
    (λ a more upto. head.same a (omega (arith, touches)) upto ∙ alike)
    (λ more same. head.after more (same ∙ sym alike)))
    (earlier_behind bytes low high run runs h) (pairs_head run runs h.rising) (pairs_tail run runs h.rising)
    (λ a more within shown. any_longer a run _ runs (λ lies. record { from = omega (arith, more); upto = lies.upto }) (h.whole a more within shown))

-- the first run after does not
longest_apart : (bytes : Bytes) (low high n : ℕ) (run : ByteRun) (runs : List ByteRun) → low < high → nibble_at bytes low ≡ suc n → (run.first ≡ low + 1 → run.nibble ≢ suc n)
    → AreLongestRuns bytes (low + 1) high (run ∷ runs) → AreLongestRuns bytes low high (record { first = low; last = low; nibble = suc n } ∷ run ∷ runs)
longest_apart bytes low high n run runs below is other h =
    let head : IsLongestRun bytes (low + 1) high run = All-head (IsLongestRun bytes (low + 1) high) run runs h.each in
    longest_front bytes low high low n (run ∷ runs)
    (is_longest bytes low high low (suc n) (omega arith) below (λ e. omega arith) is (λ a more upto. absurd (omega arith))
    (λ more same. let found = first_holds bytes (low + 1) high run runs h (h.whole (low + 1) (omega arith) more (some_not_zero n _ same)) in other found.0 (found.1 ∙ same)))
    (All-cons (IsLongestRun bytes low high) run runs (earlier bytes low high run (λ touches alike. other touches (sym alike ∙ is)) head) (earlier_behind bytes low high run runs h))
    (from_behind bytes low high (run ∷ runs) h) h.rising
    (λ a more within shown. any_behind (LiesIn a) _ (run ∷ runs) (h.whole a more within shown))

and-left : (a b : Bool) → (a && b) ≡ true → a ≡ true
and-left true b e = refl
and-left false b e = e

and-right : (a b : Bool) → (a && b) ≡ true → b ≡ true
and-right true b e = e
and-right false b e = cc

both : (a b : Bool) → a ≡ true → b ≡ true → (a && b) ≡ true
both a b first second = rw (first, second) refl

both_not : (a b : Bool) → false ≡ (a && b) → a ≡ true → b ≡ true → ⊥
both_not a b differs first second = let yes : (a && b) ≡ true = both a b first second in cc

longest_onto : (bytes : Bytes) (low high n : ℕ) (runs : List ByteRun) → low < high → nibble_at bytes low ≡ n → AreLongestRuns bytes (low + 1) high runs → AreLongestRuns bytes low high (onto_run low n runs)
longest_onto bytes low high zero runs below is h = record {
  each = All-weaker (IsLongestRun bytes (low + 1) high) (IsLongestRun bytes low high) (λ run longest. earlier bytes low high run (λ _ alike. longest.shown (sym alike ∙ is)) longest) runs h.each;
  rising = h.rising;
  whole = whole_from low high (λ a. nibble_at bytes a ≢ 0 → Any (LiesIn a) runs) (λ shown. absurd (shown is)) h.whole;
}
longest_onto bytes low high (suc n) [] below is h = longest_alone bytes low high n below is h
longest_onto bytes low high (suc n) (run ∷ runs) below is h =
    elim (eqb run.first (low + 1) && eqb run.nibble (suc n)) as (λ b. (b ≡ (eqb run.first (low + 1) && eqb run.nibble (suc n))) → AreLongestRuns bytes low high (cond b (record { first = low; last = run.last; nibble = suc n } ∷ runs) (record { first = low; last = low; nibble = suc n } ∷ run ∷ runs))) [
      | true ↦ λ both. longest_joined bytes low high n run runs below is (eqb-true _ _ (and-left _ _ (sym both))) (eqb-true _ _ (and-right _ _ (sym both))) h
      | false ↦ λ both. longest_apart bytes low high n run runs below is (λ touches alike. both_not _ _ both (eq-eqb _ _ touches) (eq-eqb _ _ alike)) h
    ] refl

longest_runs : (bytes : Bytes) (low count high : ℕ) → low + count ≡ high → AreLongestRuns bytes low high (runs_from bytes low count)
unfolding runs_from
longest_runs bytes low zero high is = record {
  each = All-nil _;
  rising = λ i j d lt below. absurd (omega arith);
  whole = λ a from below. absurd (omega arith);
}
longest_runs bytes low (suc count) high is =
    longest_onto bytes low high (nibble_at bytes low) (runs_from bytes (suc low) count) (omega arith) refl (subst (λ k. AreLongestRuns bytes k high (runs_from bytes (suc low) count)) (omega arith) (longest_runs bytes (suc low) count high (omega arith)))

pub longest_below : (bytes : Bytes) (size : ℕ) → AreLongestRuns bytes 0 size (runs_from bytes 0 size)
longest_below bytes size = longest_runs bytes 0 size size (omega arith)
