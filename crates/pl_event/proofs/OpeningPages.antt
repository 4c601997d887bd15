-- Runs of pages that rise.
use Rattle.std.proofs.Common.{◌≡◌, ℕ, ◌+◌, ◌<◌, inl, inr, Bool, true, false, cond, leb, ltb, ◌||◌, List, [], ◌∷◌, refl, arith}
use Rattle.std.proofs.lemmas.Bool.{false≢true, and_parts, ltb-true, or_from, or_cases}
use Rattle.pl_base.specs.Pages.{is_among, marked, count_below}
use Rattle.pl_base.proofs.Pages.{not_among_before, count_like, count_none, count_run}
use Rattle.pl_event.specs.declared.log.PageRun.{PageRun}
use Rattle.pl_event.specs.OpeningPages.{is_in_runs, RiseFrom, pages_in}

pub none_before : (from : ℕ) (runs : List PageRun) (p : ℕ) → RiseFrom from runs → p < from → is_in_runs runs p ≡ false
none_before from [] p rise before = refl
none_before from (run ∷ runs) p rise before =
    or_from _ _ (not_among_before run.first run.count p (omega (arith, before, rise.1))) (none_before (run.first + run.count) runs p rise.2 (omega (arith, before, rise.1)))

either : (a b : Bool) → (a || b) ≡ cond a true b
either true b = refl
either false b = refl

-- they have as many pages as are in them
pub count_runs : (from : ℕ) (runs : List PageRun) → RiseFrom from runs → count_below (is_in_runs runs) 4096 ≡ pages_in runs
count_runs from [] rise = count_none 4096
count_runs from (run ∷ runs) rise =
    let rest : count_below (is_in_runs runs) 4096 ≡ pages_in runs = count_runs (run.first + run.count) runs rise.2 in
    let one : count_below (marked (is_in_runs runs) run.first run.count true) 4096 ≡ count_below (is_in_runs runs) 4096 + run.count =
    count_run (is_in_runs runs) run.first run.count 4096 (λ p at within. none_before (run.first + run.count) runs p rise.2 within) rise.0.3 in
    let same : count_below (is_in_runs (run ∷ runs)) 4096 ≡ count_below (marked (is_in_runs runs) run.first run.count true) 4096 =
    count_like (is_in_runs (run ∷ runs)) (marked (is_in_runs runs) run.first run.count true) 4096 (λ k under. either (is_among run.first run.count k) (is_in_runs runs k)) in
    omega (arith, rest, one, same)

pub runs_inside : (from : ℕ) (runs : List PageRun) (p : ℕ) → RiseFrom from runs → is_in_runs runs p ≡ true → p < 4096
runs_inside from [] p rise is = absurd (false≢true is)
runs_inside from (run ∷ runs) p rise is = elim (or_cases (is_among run.first run.count p) (is_in_runs runs p) is) [
  | inl here ↦ let under : p < run.first + run.count = ltb-true p (run.first + run.count) (and_parts (leb run.first p) (ltb p (run.first + run.count)) here).1 in omega (arith, under, rise.0.3)
  | inr there ↦ runs_inside (run.first + run.count) runs p rise.2 there
]
