-- What each command answers to its input.
use Rattle.std.specs.Prelude.{◌≡◌, ℕ, List}
use Rattle.pl_event.specs.declared.log.Log.{Log}
use Rattle.pl_event.specs.Conflicts.{IsOrdered}
use Rattle.log_text.specs.WellFormed.{IsLogText}
use Rattle.core_sim.specs.declared.job.Job.{Job}
use Rattle.guest_asm.specs.Jobs.{IsJobText}
use Rattle.replay_probes.specs.Meaning.{Meaning}
use Rattle.paralog_top.specs.declared.answer.Verdict.{Verdict}
use Rattle.paralog_top.specs.declared.answer.Verdict.TheVariants.{Clean}
use Rattle.paralog_top.specs.declared.command.Command.{Command}
use Rattle.paralog_top.specs.declared.command.Command.TheVariants as command
use Rattle.paralog_top.specs.Checks.{IsChecked}
use Rattle.paralog_top.specs.Generating.{IsSummary}
use Rattle.paralog_top.specs.Recordings.{IsRecordTold, IsUpgradeTold}
use Rattle.paralog_top.specs.Results.{IsProbed, IsReplay}
use Rattle.paralog_top.specs.Runs.{IsListing, IsRunTold}
use Rattle.paralog_top.specs.Watches.{IsCounts, IsMonitor, IsWatch}

-- what a command answers to the bytes that it read, where these probes were handed in
abbrev pub IsAnswer : List Meaning → Command → List ℕ → List ℕ → Verdict → Type 0
IsAnswer meanings (command.Replay guard) bytes text verdict = IsReplay guard bytes text verdict
IsAnswer meanings (command.Probe guard places) bytes text verdict = IsProbed meanings guard places bytes text verdict
IsAnswer meanings command.Check bytes text verdict = IsChecked bytes text verdict
IsAnswer meanings (command.Watch guard threads) bytes text verdict = IsWatch guard bytes text verdict
IsAnswer meanings (command.Monitor guard threads) bytes text verdict = IsMonitor guard bytes text verdict
IsAnswer meanings (command.Counts guard) bytes text verdict = IsCounts guard bytes text verdict
IsAnswer meanings command.Run bytes text verdict = IsRunTold bytes text × (verdict ≡ Clean)
IsAnswer meanings command.List bytes text verdict = IsListing bytes text × (verdict ≡ Clean)
IsAnswer meanings command.Record bytes text verdict = IsRecordTold bytes text × (verdict ≡ Clean)
IsAnswer meanings command.Upgrade bytes text verdict = IsUpgradeTold bytes text × (verdict ≡ Clean)
IsAnswer meanings (command.Generate seed size) bytes text verdict = IsSummary seed size text × (verdict ≡ Clean)

abbrev pub IsLog : List ℕ → Type 0
IsLog bytes = (log : Log) × IsLogText bytes log

abbrev pub IsJob : List ℕ → Type 0
IsJob bytes = (job : Job) × IsJobText bytes job

-- of which each two records that conflict are ordered
abbrev pub IsOrderedLog : List ℕ → Type 0
IsOrderedLog bytes = (log : Log) × IsLogText bytes log × IsOrdered log

-- a command answers these bytes with `Clean` or `Reports`
abbrev pub IsInput : Command → List ℕ → Type 0
IsInput (command.Replay guard) bytes = IsLog bytes
IsInput (command.Probe guard places) bytes = IsLog bytes
IsInput command.Check bytes = IsOrderedLog bytes
IsInput (command.Watch guard threads) bytes = IsOrderedLog bytes
IsInput (command.Monitor guard threads) bytes = IsJob bytes
IsInput (command.Counts guard) bytes = IsOrderedLog bytes
IsInput command.Run bytes = IsJob bytes
IsInput command.List bytes = IsJob bytes
IsInput command.Record bytes = IsJob bytes
IsInput command.Upgrade bytes = IsLog bytes
IsInput (command.Generate seed size) bytes = Unit {0}
