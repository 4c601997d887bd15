use Rattle.std.proofs.Common.{drop}
use Rattle.guest_mem.specs.Memory.{mapped}
use Rattle.core_sim.proofs.Starts.{Going}
use Rattle.core_sim.specs.Mapping.{CanMapRuns}
use Rattle.core_sim.proofs.start.map_runs.Given as goal

abbrev pub invariant-loop-run : goal.invariant-loop-run
invariant-loop-run l = record {
  going : Going l.initial.mem l.mem l.runs (drop l.run-index l.runs);
  can : CanMapRuns (mapped l.mem) (drop l.run-index l.runs);
}
