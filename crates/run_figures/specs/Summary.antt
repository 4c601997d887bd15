-- The figures of a run, and the text that tells them.
use Rattle.std.specs.Prelude.{◌≡◌, ℕ, List, ◌∷◌, ◌++◌, [], codes, count_by, length, is_some, sum_by}
use Rattle.std.specs.Fmt.{decimal}
use Rattle.pl_event.specs.declared.event.Event.{Event}
use Rattle.pl_event.specs.declared.log.Line.{Line}
use Rattle.pl_event.specs.declared.log.PageRun.{PageRun}
use Rattle.lifeguard.specs.Rules.{Rules}
use Rattle.lifeguard.specs.Plain.{plain_result}
use Rattle.addrcheck.specs.AddrRules.{addr_rules}
use Rattle.taintcheck.specs.TaintRules.{taint_rules}
use Rattle.memcheck.specs.MemRules.{mem_rules}
use Rattle.core_sim.specs.declared.job.Job.{Job}
use Rattle.core_sim.specs.Entries.{Entry}
use Rattle.core_sim.specs.RunEvents.{events_of_run}
use Rattle.core_sim.specs.Runs.{IsRun}
use Rattle.core_sim.specs.Start.{start_runs}
use Rattle.run_record.specs.Recorded.{AreLinesOf}
use Rattle.run_figures.specs.declared.counted.Figures.{Figures}

-- how many arcs the lines have
abbrev pub arcs_in : List Line → ℕ
arcs_in lines = sum_by (λ line. count_by is_some line.arcs) lines

-- how many reports the plain rules give
abbrev pub reports_of : Rules → List PageRun → List Event → ℕ
reports_of rules pages events = length (plain_result rules pages events).reports

-- what there is to tell of a job's run with these entries and recorded lines
abbrev pub figures_of : Job → List Entry → List Line → Figures
figures_of job entries lines = record {
  steps = length entries;
  records = length lines;
  arcs = arcs_in lines;
  addr = reports_of addr_rules (start_runs job) (events_of_run entries);
  taint = reports_of taint_rules (start_runs job) (events_of_run entries);
  mem = reports_of mem_rules (start_runs job) (events_of_run entries);
}

-- the figures are those of the job's run
pub record AreFigures (job : Job) (figures : Figures) : Type 0 where
  pub entries : List Entry
  pub run : IsRun job entries
  pub lines : List Line
  pub recorded : AreLinesOf job entries lines
  pub told : figures ≡ figures_of job entries lines

-- a line with a figure
abbrev pub figure : List ℕ → ℕ → List ℕ
figure word n = word ++ 32 ∷ decimal n ++ 10 ∷ []

abbrev pub head_line : ℕ → ℕ → List ℕ
head_line seed size = codes "PGEN 1 seed " ++ decimal seed ++ codes " size " ++ decimal size ++ 10 ∷ []

abbrev pub count_lines : Figures → List ℕ
count_lines f = figure (codes "steps") f.steps ++ figure (codes "records") f.records ++ figure (codes "arcs") f.arcs

abbrev pub report_lines : Figures → List ℕ
report_lines f =
    figure (codes "reports addrcheck") f.addr ++ figure (codes "reports taintcheck") f.taint
    ++ figure (codes "reports memcheck") f.mem

-- the summary of a run whose job was drawn from a seed, with so many actions a hart
abbrev pub summary_text : ℕ → ℕ → Figures → List ℕ
summary_text seed size f = head_line seed size ++ count_lines f ++ report_lines f ++ codes "end\n"
