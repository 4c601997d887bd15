-- The pages of a valid job's start can be mapped.
use Rattle.std.proofs.Common.{◌≡◌, ℕ, ◌+◌, ◌-◌, ◌*◌, ◌<◌, ◌≤◌, Bool, true, false, List, [], ◌∷◌, length, drop, get_or, take, Option, refl, arith, sym, ap, ◌∙◌, subst}
use Rattle.pl_base.specs.Pages.{is_among, marked, count_below}
use Rattle.guest_mem.specs.Image.{PageImage}
use Rattle.guest_mem.specs.Memory.{mapped}
use Rattle.pl_base.proofs.Pages.{not_among_past, count_none, count_more}
use Rattle.pl_event.specs.declared.log.PageRun.{PageRun}
use Rattle.pl_event.specs.OpeningPages.{RiseFrom, pages_in}
use Rattle.core_sim.specs.declared.job.Job.{Job}
use Rattle.core_sim.specs.Mapping.{CanMapRun, CanMapRuns, MapsRun}
use Rattle.core_sim.specs.Start.{pages_of, text_run, start_runs}
use Rattle.core_sim.specs.Valid.{IsValidJob}
use Rattle.core_sim.proofs.Opening.{rises, few_pages}
use Rattle.core_sim.proofs.Starts.{other_runs, run_at, runs_behind}

-- the first of the runs that are left, and the others after it
pub can_first : (before : ℕ → Bool) (runs : List PageRun) (place : ℕ) (run : PageRun) → place < length runs → CanMapRuns before (drop place runs) → CanMapRun before (get_or runs place run)
can_first before runs place run within can =
    let both : CanMapRuns before (get_or runs place run ∷ drop (place + 1) runs) = subst (CanMapRuns before) (run_at runs place run within) can in
    both.0

pub can_more : (before : ℕ → Bool) (runs : List PageRun) (place : ℕ) (run : PageRun) → place < length runs → CanMapRuns before (drop place runs) →
    CanMapRuns (marked before (get_or runs place run).first (get_or runs place run).count true) (drop (place + 1) runs)
can_more before runs place run within can =
    let both : CanMapRuns before (get_or runs place run ∷ drop (place + 1) runs) = subst (CanMapRuns before) (run_at runs place run within) can in
    both.1

-- runs that rise can be mapped where they are few
can_rising : (before : ℕ → Bool) (past : ℕ) (runs : List PageRun) → ((page : ℕ) → past ≤ page → before page ≡ false) → RiseFrom past runs → count_below before 4096 + pages_in runs ≤ 512 → CanMapRuns before runs
can_rising before past [] none rises room = tt
can_rising before past (run ∷ runs) none rises room =
    let free : (page : ℕ) → run.first ≤ page → page < run.first + run.count → before page ≡ false = λ page from within. none page (omega (arith, rises.1)) in
    let counted = count_more before run.first run.count 4096 free in (
      record { in_range = omega (arith, rises.0.3); free = free; room = omega (arith, room) },
      can_rising (marked before run.first run.count true) (run.first + run.count) runs
          (λ page from. (let over : is_among run.first run.count page ≡ false = not_among_past run.first run.count page from in rw over (none page (omega (arith, rises.1)))))
          rises.2 (omega (arith, counted, room, rises.0.3)),
    )

can_start : (job : Job) → IsValidJob job → CanMapRuns (λ _. false) (start_runs job)
can_start job valid =
    can_rising (λ _. false) 0 (start_runs job) (λ page from. refl) (rises job valid) (omega (arith, count_none 4096, few_pages job valid))

-- the first run, and after it the others, as a list's parts
pub can_text : (job : Job) (none : List (Option PageImage)) (runs : List PageRun) (run : PageRun) → IsValidJob job → mapped none ≡ (λ _. false) →
    runs ≡ start_runs job → run ≡ get_or runs 0 run → CanMapRun (mapped none) run
can_text job none runs run valid m runs_are is =
    let run_is : run ≡ text_run job.words = is ∙ ap (λ (rs : List PageRun). get_or rs 0 run) runs_are in
    subst (λ (test : ℕ → Bool). CanMapRun test run) (sym m) (subst (λ (r : PageRun). CanMapRun (λ _. false) r) (sym run_is) (can_start job valid).0)

pub can_others : (job : Job) (none first : List (Option PageImage)) (runs sliced : List PageRun) (run : PageRun) → IsValidJob job → mapped none ≡ (λ _. false) →
    runs ≡ start_runs job → sliced ≡ runs → run ≡ get_or runs 0 run → MapsRun none first run true → CanMapRuns (mapped first) (take (length sliced - 1) (drop 1 sliced))
can_others job none first runs sliced run valid m runs_are same is maps =
    let run_is : run ≡ text_run job.words = is ∙ ap (λ (rs : List PageRun). get_or rs 0 run) runs_are in
    let rest_is : take (length sliced - 1) (drop 1 sliced) ≡ other_runs job = runs_behind 1 sliced ∙ ap (drop 1) (same ∙ runs_are) in
    let mapped_is : mapped first ≡ marked (λ _. false) 16 (pages_of (4 * length job.words)) true =
    maps.mapped_are ∙ ap (λ (test : ℕ → Bool). marked test run.first run.count true) m ∙ ap (λ (r : PageRun). marked (λ _. false) r.first r.count true) run_is in
    subst (CanMapRuns (mapped first)) (sym rest_is) (subst (λ (test : ℕ → Bool). CanMapRuns test (other_runs job)) (sym mapped_is) (can_start job valid).1)
