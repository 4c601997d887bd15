-- What the workers of a log find: the plain result of the log.
use Rattle.std.specs.Prelude.{◌≡◌, ℕ, ◌<◌, length, slice_index}
use mathlib.Core.Option.{some}
use lib.ListN.{get_elem?}
use Rattle.pl_base.specs.declared.layout.TheConstants.{REGISTERS}
use Rattle.pl_event.specs.declared.log.Log.{Log}
use Rattle.lifeguard.specs.Rules.{Rules}
use Rattle.lifeguard.specs.Plain.{final_state}
use Rattle.lifeguard.specs.Ranges.{reports_on}
use Rattle.order_core.specs.Course.{course_of, length_of}
use Rattle.shadow_frames.specs.declared.words.TheConstants.{TABLE_WORDS}
use Rattle.shadow_frames.specs.Words.{WordsRepresent}
use Rattle.log_plan.specs.Plans.{plan_of}
use Rattle.turn_worker.specs.declared.worker.HartResult.{HartResult}
use Rattle.turn_worker.specs.Results.{checks_of}
use Rattle.worker_laws.specs.Folds.{misses_at}
use Rattle.worker_laws.specs.LogRuns.{log_run}
use Rattle.log_watch.specs.declared.watched.Watched.{Watched}

-- how many of a hart's checks miss in the filter
abbrev pub misses_of : Rules → Log → ℕ → ℕ
misses_of rules log h = misses_at (log_run rules log) h (length_of (course_of (plan_of rules log)) h)

-- what was found on hart h is what the plain rules give there
pub record IsOfHart (rules : Rules) (log : Log) (h : ℕ) (result : HartResult) : Type 0 where
  pub hart : result.hart ≡ h
  pub reports : result.reports.items ≡ reports_on h (final_state rules log).reports
  pub masks : (r : ℕ) → r < REGISTERS → slice_index result.masks r ≡ (final_state rules log).masks h r
  pub checks : result.checks ≡ checks_of rules h log.lines
  pub misses : result.misses ≡ misses_of rules log h

-- for each hart what the plain rules give there, and words that represent the bytes that they leave
pub record IsWatched (rules : Rules) (log : Log) (watched : Watched) : Type 0 where
  pub harts : length watched.results.items ≡ log.harts
  pub results : (h : ℕ) (result : HartResult) → get_elem? watched.results.items h ≡ some result →
      IsOfHart rules log h result
  pub size : length watched.words.items ≡ TABLE_WORDS
  pub bytes : ∥ WordsRepresent (slice_index watched.words.items) (final_state rules log).bytes ∥₁
