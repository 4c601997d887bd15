-- A run that is still open, before the runs of the bytes after it.
use Rattle.std.proofs.Common.{◌≡◌, ℕ, zero, suc, ◌+◌, ◌-◌, ◌<◌, ◌≤◌, Bool, true, false, cond, eqb, ◌&&◌, List, [], ◌∷◌, ◌++◌, refl, sym, ap, ◌∙◌, arith, add-one, append_assoc}
use Rattle.std.specs.Prelude.{if◌then◌else◌, ◌==◌}
use Rattle.std.proofs.lemmas.Bool.{eq-eqb, ne_eqb}
use Rattle.lifeguard.specs.State.{Bytes, nibble_at}
use Rattle.report_text.specs.declared.runs.ByteRun.{ByteRun}
use Rattle.report_text.specs.Runs.{onto_run, runs_from, ended_run}

-- the bytes from first up to at have the nibble n; runs are those from at on
abbrev pub open_run : ℕ → ℕ → ℕ → List ByteRun → List ByteRun
open_run first at zero runs = runs
open_run first at (suc n) [] = record { first = first; last = at - 1; nibble = suc n } ∷ []
open_run first at (suc n) (run ∷ runs) =
    if (run.first == at) && (run.nibble == suc n)
    then record { first = first; last = run.last; nibble = suc n } ∷ runs
    else record { first = first; last = at - 1; nibble = suc n } ∷ run ∷ runs

-- the first run begins at a or later
abbrev pub BeginsFrom : ℕ → List ByteRun → Type 0
BeginsFrom a [] = Unit {0}
BeginsFrom a (run ∷ runs) = a ≤ run.first

BeginsFrom-less : (a b : ℕ) (runs : List ByteRun) → a ≤ b → BeginsFrom b runs → BeginsFrom a runs
BeginsFrom-less a b [] le h = tt
BeginsFrom-less a b (run ∷ runs) le h = omega arith

BeginsFrom-onto : (a n : ℕ) (runs : List ByteRun) → BeginsFrom (a + 1) runs → BeginsFrom a (onto_run a n runs)
BeginsFrom-onto a zero runs h = BeginsFrom-less a (a + 1) runs (omega arith) h
BeginsFrom-onto a (suc n) [] h = omega arith
BeginsFrom-onto a (suc n) (run ∷ runs) h = elim ((eqb run.first (a + 1)) && (eqb run.nibble (suc n))) as (λ b. BeginsFrom a (cond b (record { first = a; last = run.last; nibble = suc n } ∷ runs) (record { first = a; last = a; nibble = suc n } ∷ run ∷ runs))) [ true ↦ omega arith | false ↦ omega arith ]

pub runs_begin : (bytes : Bytes) (a count : ℕ) → BeginsFrom a (runs_from bytes a count)
unfolding runs_from
runs_begin bytes a zero = tt
runs_begin bytes a (suc count) = BeginsFrom-onto a (nibble_at bytes a) (runs_from bytes (suc a) count) (rw add-one (runs_begin bytes (suc a) count))

-- the next byte goes before the runs after it
pub runs_step : (bytes : Bytes) (a total : ℕ) → a < total → runs_from bytes a (total - a) ≡ onto_run a (nibble_at bytes a) (runs_from bytes (a + 1) (total - (a + 1)))
unfolding runs_from
runs_step bytes a total lt =
    let k : total - a ≡ suc (total - (a + 1)) = omega arith in
    rw (k, add-one) refl

-- no byte after
pub runs_none : (bytes : Bytes) (a total : ℕ) → total ≤ a → runs_from bytes a (total - a) ≡ []
unfolding runs_from
runs_none bytes a total le =
    let k : total - a ≡ 0 = omega arith in
    rw k refl

-- no run after
pub open_none : (first at n : ℕ) → open_run first at n [] ≡ ended_run first at n
open_none first at zero = refl
open_none first at (suc n) = refl

and-false : (b : Bool) → (b && false) ≡ false
and-false true = refl
and-false false = refl

last_back : (at : ℕ) → at ≡ at + 1 - 1
last_back at = omega arith

joins : (first at n last : ℕ) (runs : List ByteRun) → open_run first at (suc n) (record { first = at; last = last; nibble = suc n } ∷ runs) ≡ record { first = first; last = last; nibble = suc n } ∷ runs
joins first at n last runs = rw (eq-eqb at at refl, eq-eqb (suc n) (suc n) refl) refl

-- a byte with the nibble of the open run
pub open_same : (first at n : ℕ) (runs : List ByteRun) → open_run first at n (onto_run at n runs) ≡ open_run first (at + 1) n runs
open_same first at zero runs = refl
open_same first at (suc n) [] = joins first at n at [] ∙ ap (λ (k : ℕ). record { first = first; last = k; nibble = suc n } ∷ []) (last_back at)
open_same first at (suc n) (run ∷ runs) =
    elim (eqb run.first (at + 1) && eqb run.nibble (suc n)) as (λ b.
    open_run first at (suc n) (cond b (record { first = at; last = run.last; nibble = suc n } ∷ runs) (record { first = at; last = at; nibble = suc n } ∷ run ∷ runs))
    ≡ cond b (record { first = first; last = run.last; nibble = suc n } ∷ runs) (record { first = first; last = at + 1 - 1; nibble = suc n } ∷ run ∷ runs)) [
      | true ↦ joins first at n run.last runs
      | false ↦ joins first at n at (run ∷ runs) ∙ ap (λ (k : ℕ). record { first = first; last = k; nibble = suc n } ∷ run ∷ runs) (last_back at)
    ]

-- a byte alone is an open run
onto_is_open : (at m : ℕ) (runs : List ByteRun) → onto_run at m runs ≡ open_run at (at + 1) m runs
onto_is_open at zero runs = refl
onto_is_open at (suc m) [] = ap (λ (k : ℕ). record { first = at; last = k; nibble = suc m } ∷ []) (last_back at)
onto_is_open at (suc m) (run ∷ runs) = ap (λ (k : ℕ). cond (eqb run.first (at + 1) && eqb run.nibble (suc m)) (record { first = at; last = run.last; nibble = suc m } ∷ runs) (record { first = at; last = k; nibble = suc m } ∷ run ∷ runs)) (last_back at)

-- the open run ends before a run that begins later
parts_by_place : (first at n : ℕ) (runs : List ByteRun) → BeginsFrom (at + 1) runs → open_run first at n runs ≡ ended_run first at n ++ runs
parts_by_place first at zero runs h = refl
parts_by_place first at (suc n) [] h = refl
parts_by_place first at (suc n) (run ∷ runs) h = rw (ne_eqb run.first at (λ e. omega arith)) refl

-- and before one of another nibble
parts_by_nibble : (first at n : ℕ) (run : ByteRun) (runs : List ByteRun) → (run.nibble ≡ n → ⊥) → open_run first at n (run ∷ runs) ≡ ended_run first at n ++ run ∷ runs
parts_by_nibble first at zero run runs ne = refl
parts_by_nibble first at (suc n) run runs ne = rw (ne_eqb run.nibble (suc n) ne, and-false (eqb run.first at)) refl

parts_by_onto : (first at n m : ℕ) (runs : List ByteRun) → (suc m ≡ n → ⊥) → open_run first at n (onto_run at (suc m) runs) ≡ ended_run first at n ++ onto_run at (suc m) runs
parts_by_onto first at n m [] ne = parts_by_nibble first at n (record { first = at; last = at; nibble = suc m }) [] ne
parts_by_onto first at n m (run ∷ runs) ne =
    elim (eqb run.first (at + 1) && eqb run.nibble (suc m)) as (λ b.
    open_run first at n (cond b (record { first = at; last = run.last; nibble = suc m } ∷ runs) (record { first = at; last = at; nibble = suc m } ∷ run ∷ runs))
    ≡ ended_run first at n ++ cond b (record { first = at; last = run.last; nibble = suc m } ∷ runs) (record { first = at; last = at; nibble = suc m } ∷ run ∷ runs)) [
      | true ↦ parts_by_nibble first at n (record { first = at; last = run.last; nibble = suc m }) runs ne
      | false ↦ parts_by_nibble first at n (record { first = at; last = at; nibble = suc m }) (run ∷ runs) ne
    ]

-- a byte with another nibble
pub open_other : (first at n m : ℕ) (runs : List ByteRun) → BeginsFrom (at + 1) runs → (m ≡ n → ⊥) → open_run first at n (onto_run at m runs) ≡ ended_run first at n ++ open_run at (at + 1) m runs
open_other first at n zero runs begins ne = parts_by_place first at n runs begins
open_other first at n (suc m) runs begins ne = parts_by_onto first at n m runs ne ∙ ap (λ (t : List ByteRun). ended_run first at n ++ t) (onto_is_open at (suc m) runs)

-- ---- the step of the loop

-- the next byte has the nibble of the open run
passed_same : (bytes : Bytes) (done : List ByteRun) (first at n total : ℕ) (whole : List ByteRun) → at < total → nibble_at bytes at ≡ n
    → done ++ open_run first at n (runs_from bytes at (total - at)) ≡ whole → done ++ open_run first (at + 1) n (runs_from bytes (at + 1) (total - (at + 1))) ≡ whole
passed_same bytes done first at n total whole lt is e =
    let step : open_run first at n (runs_from bytes at (total - at)) ≡ open_run first (at + 1) n (runs_from bytes (at + 1) (total - (at + 1))) =
    ap (open_run first at n) (runs_step bytes at total lt ∙ ap (λ (m : ℕ). onto_run at m (runs_from bytes (at + 1) (total - (at + 1)))) is) ∙ open_same first at n (runs_from bytes (at + 1) (total - (at + 1))) in
    ap (λ (t : List ByteRun). done ++ t) (sym step) ∙ e

-- the next byte has another nibble
passed_other : (bytes : Bytes) (done : List ByteRun) (first at n m total : ℕ) (whole : List ByteRun) → at < total → nibble_at bytes at ≡ m → (m ≡ n → ⊥)
    → done ++ open_run first at n (runs_from bytes at (total - at)) ≡ whole → (done ++ ended_run first at n) ++ open_run at (at + 1) m (runs_from bytes (at + 1) (total - (at + 1))) ≡ whole
passed_other bytes done first at n m total whole lt is ne e =
    let later = runs_from bytes (at + 1) (total - (at + 1)) in
    let step : open_run first at n (runs_from bytes at (total - at)) ≡ ended_run first at n ++ open_run at (at + 1) m later =
    ap (open_run first at n) (runs_step bytes at total lt ∙ ap (λ (k : ℕ). onto_run at k later) is) ∙ open_other first at n m later (runs_begin bytes (at + 1) (total - (at + 1))) ne in
    append_assoc done (ended_run first at n) (open_run at (at + 1) m later) ∙ ap (λ (t : List ByteRun). done ++ t) (sym step) ∙ e

-- the next bytes up to `end` all have the nibble of the open run
passed_alike : (bytes : Bytes) (done : List ByteRun) (first at n total : ℕ) (whole : List ByteRun) (k end : ℕ) → end ≡ at + k → end ≤ total → ((a : ℕ) → at ≤ a → a < end → nibble_at bytes a ≡ n)
    → done ++ open_run first at n (runs_from bytes at (total - at)) ≡ whole → done ++ open_run first end n (runs_from bytes end (total - end)) ≡ whole
passed_alike bytes done first at n total whole zero end is within alike e =
    let same : end ≡ at = omega arith in
    rw same e
passed_alike bytes done first at n total whole (suc k) end is within alike e =
    let next : end ≡ at + k + 1 = omega arith in
    rw next (passed_same bytes done first (at + k) n total whole (omega arith) (alike (at + k) (omega arith) (omega arith))
    (passed_alike bytes done first at n total whole k (at + k) refl (omega arith) (λ a from below. alike a from (omega arith)) e))

-- the loop's next byte and those up to `end` have the nibble of the open run
pub passed_same_up_to : (bytes : Bytes) (done : List ByteRun) (first at n end total : ℕ) (whole : List ByteRun) → at < end → end ≤ total → nibble_at bytes at ≡ n → ((a : ℕ) → at ≤ a → a < end → nibble_at bytes a ≡ nibble_at bytes at)
    → done ++ open_run first at n (runs_from bytes at (total - at)) ≡ whole → done ++ open_run first end n (runs_from bytes end (total - end)) ≡ whole
passed_same_up_to bytes done first at n end total whole past within is alike e =
    passed_alike bytes done first at n total whole (end - at) end (omega arith) within (λ a from below. alike a from below ∙ is) e

-- they have another nibble
pub passed_other_up_to : (bytes : Bytes) (done : List ByteRun) (first at n m end total : ℕ) (whole : List ByteRun) → at < end → end ≤ total → nibble_at bytes at ≡ m → ((a : ℕ) → at ≤ a → a < end → nibble_at bytes a ≡ nibble_at bytes at) → (m ≡ n → ⊥)
    → done ++ open_run first at n (runs_from bytes at (total - at)) ≡ whole → (done ++ ended_run first at n) ++ open_run at end m (runs_from bytes end (total - end)) ≡ whole
passed_other_up_to bytes done first at n m end total whole past within is alike ne e =
    passed_alike bytes (done ++ ended_run first at n) at (at + 1) m total whole (end - (at + 1)) end (omega arith) within (λ a from below. alike a (omega arith) below ∙ is)
    (passed_other bytes done first at n m total whole (omega arith) is ne e)

-- the end of memory ends the open run
pub passed_end : (bytes : Bytes) (done : List ByteRun) (first at n total : ℕ) (whole : List ByteRun) → at ≡ total
    → done ++ open_run first at n (runs_from bytes at (total - at)) ≡ whole → done ++ ended_run first total n ≡ whole
passed_end bytes done first at n total whole is e =
    let none : runs_from bytes at (total - at) ≡ [] = runs_none bytes at total (omega arith) in
    let ended : open_run first at n (runs_from bytes at (total - at)) ≡ ended_run first total n =
    ap (open_run first at n) none ∙ open_none first at n ∙ ap (λ k. ended_run first k n) is in
    ap (λ (t : List ByteRun). done ++ t) (sym ended) ∙ e
