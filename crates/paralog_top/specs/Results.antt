-- The plain result of a log, as a text, and with the lines of probes after it.
use Rattle.std.specs.Prelude.{◌≡◌, ℕ, Bool, true, false, ◌==◌, List, [], ◌∷◌, ◌++◌, length, map, slice_index_or}
use Rattle.std.specs.List.{flat_map}
use Rattle.pl_event.specs.declared.event.Event.{Event}
use Rattle.pl_event.specs.declared.log.Log.{Log}
use Rattle.pl_event.specs.Numbers.{events_of}
use Rattle.log_text.specs.WellFormed.{IsLogText}
use Rattle.lifeguard.specs.Rules.{Rules}
use Rattle.lifeguard.specs.declared.guard.Name.{Name}
use Rattle.lifeguard.specs.declared.guard.Name.TheVariants as guard
use Rattle.lifeguard.specs.State.{State}
use Rattle.lifeguard.specs.Plain.{final_state}
use Rattle.addrcheck.specs.AddrRules.{addr_rules}
use Rattle.taintcheck.specs.TaintRules.{taint_rules}
use Rattle.memcheck.specs.MemRules.{mem_rules}
use Rattle.report_text.specs.StateText.{state_text}
use Rattle.replay_probes.specs.Meaning.{Meaning, line_over}
use Rattle.paralog_top.specs.declared.answer.Verdict.{Verdict}
use Rattle.paralog_top.specs.declared.answer.Verdict.TheVariants.{Clean, Reports}

abbrev pub rules_of : Name → Rules
rules_of guard.Addr = addr_rules
rules_of guard.Taint = taint_rules
rules_of guard.Mem = mem_rules

-- whether a lifeguard has a report
abbrev pub verdict_of : Bool → Verdict
verdict_of true = Clean
verdict_of false = Reports

abbrev pub state_verdict : State → Verdict
state_verdict state = verdict_of (length state.reports == 0)

-- the text is that of the log's plain result, and the verdict says whether that has a report
pub record IsResult (rules : Rules) (log : Log) (text : List ℕ) (verdict : Verdict) : Type 0 where
  pub told : text ≡ state_text rules.name log.harts (final_state rules log)
  pub marked : verdict ≡ state_verdict (final_state rules log)

-- ---- `replay`

-- the bytes are a log, and the answer is its result
pub record IsReplayUnder (rules : Rules) (bytes text : List ℕ) (verdict : Verdict) : Type 0 where
  pub log : Log
  pub read : IsLogText bytes log
  pub result : IsResult rules log text verdict

abbrev pub IsReplay : Name → List ℕ → List ℕ → Verdict → Type 0
IsReplay guard bytes text verdict = IsReplayUnder (rules_of guard) bytes text verdict

-- ---- `probe`

-- the line of a probe over a run, and its line feed; nothing but that where there is no probe at the place
abbrev pub line_at : List (List ℕ) → ℕ → List ℕ
line_at lines place = slice_index_or lines place [] ++ 10 ∷ []

-- the lines of the chosen probes over a run, in the order of the words
abbrev pub chosen_lines : List Meaning → List Event → List ℕ → List ℕ
chosen_lines meanings events places = flat_map (line_at (map (line_over events) meanings)) places

-- the bytes are a log, and the answer is its result, with the lines of the chosen probes after it
pub record IsProbedUnder (rules : Rules) (meanings : List Meaning) (places bytes text : List ℕ) (verdict : Verdict)
    : Type 0 where
  pub log : Log
  pub read : IsLogText bytes log
  pub report : List ℕ
  pub result : IsResult rules log report verdict
  pub told : text ≡ report ++ chosen_lines meanings (events_of log.lines) places

abbrev pub IsProbed : List Meaning → Name → List ℕ → List ℕ → List ℕ → Verdict → Type 0
IsProbed meanings guard places bytes text verdict = IsProbedUnder (rules_of guard) meanings places bytes text verdict
