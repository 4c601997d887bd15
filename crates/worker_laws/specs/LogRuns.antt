-- The run of a log under the rules of a lifeguard.
use Rattle.std.specs.Prelude.{ℕ}
use Rattle.pl_event.specs.declared.log.Log.{Log}
use Rattle.lifeguard.specs.Rules.{Rules}
use Rattle.order_core.specs.Filled.{words_after}
use Rattle.shadow_layout.specs.Logs.{log_shapes, state_before}
use Rattle.log_plan.specs.Plans.{opening_list, plan_of}
use Rattle.worker_laws.specs.Runs.{Moment, Run}

-- the plain state before the line at position i, and the words that the records before it leave
abbrev pub moment_at : Rules → Log → ℕ → Moment
moment_at rules log i = record {
  state = state_before rules log i;
  words = words_after (log_shapes rules log) (opening_list rules log.pages) i;
}

-- the plan of the log, beside its plain run
abbrev pub log_run : Rules → Log → Run
log_run rules log = record { rules = rules; plan = plan_of rules log; moment = moment_at rules log }
