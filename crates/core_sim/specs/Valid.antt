-- Which jobs can be run.
use Rattle.std.specs.Prelude.{ℕ, ◌^◌, ◌<◌, ◌≤◌, length, All}
use Rattle.core_sim.specs.declared.job.Item.{Item}
use Rattle.core_sim.specs.declared.job.Job.{Job}
use Rattle.core_sim.specs.declared.job.Schedule.{Schedule}
use Rattle.pl_base.specs.declared.layout.TheConstants.{MAX_STEPS, MAX_HARTS, MAX_TEXT_WORDS, MAX_DATA_BYTES}
use Rattle.core_sim.specs.declared.job.Schedule.TheVariants as schedule

-- how many steps a turn has that comes again
abbrev pub IsQuantum : ℕ → Type 0
IsQuantum q = (1 ≤ q) × (q ≤ 65535)

-- a turn of a hart of the job, of as many steps as a run takes at most
pub record IsTurn (harts : ℕ) (item : Item) : Type 0 where
  pub hart : item.hart < harts
  pub some : 1 ≤ item.count
  pub few : item.count ≤ MAX_STEPS

abbrev pub IsSchedule : ℕ → Schedule → Type 0
IsSchedule harts (schedule.Rr q) = IsQuantum q
IsSchedule harts (schedule.List items) = All (IsTurn harts) items
IsSchedule harts (schedule.Seed n q) = (n < 2 ^ 32) × IsQuantum q

-- addresses of 32 bits, and bytes of 8
pub record HasTypedNumbers (job : Job) : Type 0 where
  pub entries : All (λ entry. entry < 2 ^ 32) job.entries
  pub data_bytes : All (λ byte. byte < 2 ^ 8) job.data_bytes
  pub input : All (λ byte. byte < 2 ^ 8) job.input

-- each number of a job is in its range
pub record IsValidJob (job : Job) : Type 0 where
  pub typed : HasTypedNumbers job
  pub some_harts : 1 ≤ job.harts
  pub few_harts : job.harts ≤ MAX_HARTS
  pub turns : IsSchedule job.harts job.schedule
  pub some_steps : 1 ≤ job.steps
  pub few_steps : job.steps ≤ MAX_STEPS
  pub some_words : 1 ≤ length job.words
  pub few_words : length job.words ≤ MAX_TEXT_WORDS
  pub few_bytes : length job.data_bytes ≤ MAX_DATA_BYTES
