-- The pages of the start of a valid job rise, and are few.
use Rattle.std.proofs.Common.{ℕ, ◌≤◌, List, [], ◌∷◌, ◌++◌, length, arith}
use Rattle.pl_event.specs.OpeningPages.{RiseFrom, pages_in}
use Rattle.core_sim.specs.declared.job.Job.{Job}
use Rattle.core_sim.specs.Start.{text_run, data_runs, heap_run, stack_run, start_runs}
use Rattle.core_sim.specs.Valid.{IsValidJob}

-- they lie inside memory, each run after the one before it
pub rises : (job : Job) → IsValidJob job → RiseFrom 0 (start_runs job)
rises job valid = rising job.data_bytes valid.few_bytes
  where
    rising : (bytes : List ℕ) → length bytes ≤ 262144 → RiseFrom 0 ((text_run job.words ∷ data_runs bytes) ++ heap_run ∷ stack_run job.harts ∷ [])
    rising [] few = (
      (omega arith, omega (arith, valid.some_words), omega (arith, valid.few_words), omega (arith, valid.few_words)),
      omega arith,
      (
        (omega arith, omega arith, omega arith, omega arith),
        omega (arith, valid.few_words),
        (
          (omega arith, omega (arith, valid.some_harts), omega (arith, valid.few_harts), omega (arith, valid.few_harts)),
          omega arith,
          tt,
        ),
      ),
    )
    rising (byte ∷ rest) few = (
      (omega arith, omega (arith, valid.some_words), omega (arith, valid.few_words), omega (arith, valid.few_words)),
      omega arith,
      (
        (omega arith, omega arith, omega (arith, few), omega (arith, few)),
        omega (arith, valid.few_words),
        (
          (omega arith, omega arith, omega arith, omega arith),
          omega (arith, few),
          (
            (omega arith, omega (arith, valid.some_harts), omega (arith, valid.few_harts), omega (arith, valid.few_harts)),
            omega arith,
            tt,
          ),
        ),
      ),
    )

-- together they are no more than may be mapped
pub few_pages : (job : Job) → IsValidJob job → pages_in (start_runs job) ≤ 512
few_pages job valid = few_in job.data_bytes valid.few_bytes
  where
    few_in : (bytes : List ℕ) → length bytes ≤ 262144 → pages_in ((text_run job.words ∷ data_runs bytes) ++ heap_run ∷ stack_run job.harts ∷ []) ≤ 512
    few_in [] few = omega (arith, valid.few_words, valid.few_harts)
    few_in (byte ∷ rest) few = omega (arith, valid.few_words, valid.few_harts, few)
