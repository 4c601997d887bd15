use Rattle.std.proofs.Common.{◌++◌, ℕ, List, take}
use Rattle.pl_event.specs.declared.log.Line.{Line}
use Rattle.pl_event.specs.declared.log.PageRun.{PageRun}
use Rattle.run_figures.specs.Tallies.{HasTallied, MayTally}
use Rattle.run_figures.proofs.tally.Tally.add_all.Given as goal

abbrev pub invariant-loop-line : goal.invariant-loop-line
invariant-loop-line l = (harts : ℕ) (pages : List PageRun) (lines : List Line) → MayTally harts pages lines l.more l.initial.self → HasTallied harts pages (lines ++ take l.line-index l.more) l.self
