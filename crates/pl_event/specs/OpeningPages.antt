-- The pages that are mapped at the start, as runs.
use Rattle.std.specs.Prelude.{ℕ, ◌+◌, ◌≤◌, Bool, List, [], ◌∷◌}
use Rattle.std.specs.List.{list_any}
use Rattle.pl_base.specs.Pages.{is_among}
use Rattle.pl_event.specs.declared.log.PageRun.{PageRun}
use Rattle.pl_event.specs.Valid.{IsPageRange}

-- the page is one of a run's
abbrev pub is_in_runs : List PageRun → ℕ → Bool
is_in_runs runs page = list_any (λ run. is_among run.first run.count page) runs

-- the runs lie inside memory, from page `from` on, each after the one before it
abbrev pub RiseFrom : ℕ → List PageRun → Type 0
RiseFrom from [] = Unit {0}
RiseFrom from (run ∷ runs) =
    IsPageRange run.first run.count × (from ≤ run.first) × RiseFrom (run.first + run.count) runs

-- how many pages they have
abbrev pub pages_in : List PageRun → ℕ
pages_in [] = 0
pages_in (run ∷ runs) = run.count + pages_in runs
