-- Which lists of entries are runs.
use Rattle.std.specs.Prelude.{◌≡◌, ◌≢◌, ℕ, ◌<◌, ◌⊎◌, List, [], ◌∷◌, ◌++◌, length, ⊤, slice_index_or}
use Rattle.rv_exec.specs.Hart.{Hart}
use Rattle.core_sim.specs.declared.job.Job.{Job}
use Rattle.core_sim.specs.Harts.{live_harts}
use Rattle.core_sim.specs.Entries.{Entry, state_after, harts_after, scheduled}
use Rattle.core_sim.specs.Start.{standing_at}
use Rattle.core_sim.specs.Steps.{IsStep, instr_at}

-- the state of a hart after these entries
abbrev pub state_of_hart : Job → List Entry → ℕ → Hart
state_of_hart job entries hart = (slice_index_or (harts_after job entries) hart (standing_at 0 0)).state

-- some hart is live
abbrev pub IsLive : Job → List Entry → Type 0
IsLive job entries = live_harts (harts_after job entries) ≢ []

-- an entry that may follow: some hart is live and the limit is not reached, and the hart that the schedule names takes
-- a step
pub record IsNext (job : Job) (before : List Entry) (e : Entry) : Type 0 where
  pub live : IsLive job before
  pub within : length before < job.steps
  pub hart : e.hart ≡ scheduled job before
  pub instr : e.instr ≡ instr_at job.words (state_of_hart job before e.hart).pc
  pub step : IsStep job.words (state_after job before) (state_of_hart job before e.hart) e.act

-- a prefix of the job's run, its latest entry first
abbrev pub IsPrefix : Job → List Entry → Type 0
IsPrefix job [] = ⊤
IsPrefix job (e ∷ before) = IsPrefix job before × IsNext job before e

-- no hart is live, or the limit is reached
abbrev pub IsEnded : Job → List Entry → Type 0
IsEnded job entries = (live_harts (harts_after job entries) ≡ []) ⊎ (length entries ≡ job.steps)

-- the job's run
pub record IsRun (job : Job) (entries : List Entry) : Type 0 where
  pub prefix : IsPrefix job entries
  pub ended : IsEnded job entries

-- the job has a run
pub record HasRun (job : Job) : Type 0 where
  pub entries : List Entry
  pub run : IsRun job entries

-- the entries are the earliest ones of a run
pub record IsPart (entries run : List Entry) : Type 0 where
  pub later : List Entry
  pub run_is : run ≡ later ++ entries
