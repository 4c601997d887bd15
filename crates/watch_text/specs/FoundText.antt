-- What the workers of a log found, as a text.
use Rattle.std.specs.Prelude.{◌≡◌, ℕ, ◌==◌, length}
use Rattle.pl_event.specs.declared.log.Log.{Log}
use Rattle.pl_event.specs.Runs.{IsRunLog}
use Rattle.lifeguard.specs.Plain.{final_state}
use Rattle.lifeguard.specs.Rules.{Rules}
use Rattle.log_watch.specs.Watched.{IsWatched}
use Rattle.log_watch.specs.declared.watched.Watched.{Watched}
use Rattle.report_text.specs.StateText.{state_text}
use Rattle.watch_text.specs.declared.found.Found.{Found}

-- it is a log of so many harts, and this is what its workers found
pub record IsFoundIn (rules : Rules) (harts : ℕ) (log : Log) (watched : Watched) : Type 0 where
  pub run : IsRunLog log
  pub size : log.harts ≡ harts
  pub found : IsWatched rules log watched

-- the text is that of the log's plain result, and no report is in it where it is clean
pub record IsTold (rules : Rules) (log : Log) (found : Found) : Type 0 where
  pub text : found.text.items ≡ state_text rules.name log.harts (final_state rules log)
  pub clean : found.is_clean ≡ (length (final_state rules log).reports == 0)
