-- How the pages of the start come into memory.
use Rattle.std.specs.Prelude.{◌≡◌, ℕ, ◌+◌, ◌/◌, ◌≤◌, ◌||◌, Bool, true, false, if◌then◌else◌, Option, Some, List, [], ◌∷◌}
use Rattle.pl_base.specs.Pages.{marked, EachPage, count_below}
use Rattle.guest_mem.specs.Bytes.{repaged}
use Rattle.guest_mem.specs.Image.{PageImage}
use Rattle.guest_mem.specs.Faults.{InRange}
use Rattle.guest_mem.specs.Memory.{bytes, mapped, texts}
use Rattle.pl_event.specs.declared.log.PageRun.{PageRun}
use Rattle.core_sim.specs.declared.job.Job.{Job}
use Rattle.core_sim.specs.Entries.{byte_at, is_mapped}
use Rattle.pl_event.specs.OpeningPages.{is_in_runs}
use Rattle.core_sim.specs.Start.{is_text}
use Rattle.pl_base.specs.declared.layout.TheConstants.{PAGE_BYTES, PAGE_COUNT, MAX_MAPPED_PAGES}

-- a run of pages can be mapped beside those that are mapped already
pub record CanMapRun (before : ℕ → Bool) (run : PageRun) : Type 0 where
  pub in_range : InRange run.first run.count
  pub free : EachPage before run.first run.count false
  pub room : count_below before PAGE_COUNT + run.count ≤ MAX_MAPPED_PAGES

-- runs of pages can be mapped one after the other
abbrev pub CanMapRuns : (ℕ → Bool) → List PageRun → Type 0
CanMapRuns before [] = Unit {0}
CanMapRuns before (run ∷ runs) = CanMapRun before run × CanMapRuns (marked before run.first run.count true) runs

-- a run of pages of zeros was added
pub record MapsRun (old new : List (Option PageImage)) (run : PageRun) (text : Bool) : Type 0 where
  pub bytes_are : bytes new ≡ repaged (bytes old) run.first run.count (Some 0)
  pub mapped_are : mapped new ≡ marked (mapped old) run.first run.count true
  pub texts_are : texts new ≡ marked (texts old) run.first run.count text
  pub free : EachPage (mapped old) run.first run.count false

-- runs of pages of zeros were added, none of them text
pub record MapsRuns (old new : List (Option PageImage)) (runs : List PageRun) : Type 0 where
  pub bytes_are : (k : ℕ) → bytes new k ≡ (if is_in_runs runs (k / PAGE_BYTES) then Some 0 else bytes old k)
  pub mapped_are : (page : ℕ) → mapped new page ≡ (is_in_runs runs page || mapped old page)
  pub texts_are : (page : ℕ) → texts new page ≡ texts old page

-- the memory of a run without entries
pub record IsStartMemory (job : Job) (memory : List (Option PageImage)) : Type 0 where
  pub bytes_are : bytes memory ≡ byte_at job []
  pub mapped_are : mapped memory ≡ is_mapped job []
  pub texts_are : texts memory ≡ is_text job
