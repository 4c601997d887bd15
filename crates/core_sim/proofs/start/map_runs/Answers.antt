use Rattle.std.proofs.Common.{List, drop, ◌+◌, subst, sym, Bool, ℕ}
use Rattle.std.proofs.Math.ListN.{drop_of_length-le}
use Rattle.guest_mem.specs.Memory.{mapped}
use Rattle.pl_event.specs.declared.log.PageRun.{PageRun}
use Rattle.core_sim.specs.Mapping.{CanMapRuns}
use Rattle.core_sim.proofs.Starts.{Going, going_first, going_more, going_last, run_at}
use Rattle.core_sim.proofs.Roomy.{can_first, can_more}
use Rattle.core_sim.proofs.start.map_runs.Goals as goal

pub loop-run-init : goal.loop-run-init
loop-run-init c = record { going = going_first _ _; can = c.requires.can }

pub map_run-requires-clause-can : goal.map_run-requires-clause-can
map_run-requires-clause-can c =
    can_first (mapped c.loop-run.mem) c.args.runs.now c.loop-run.run-index _ c.loop-run-test.true c.loop-run.invariant.can

pub loop-run-preserved : goal.loop-run-preserved
loop-run-preserved c = record {
  going = going_more _ _ _ _ _ _ c.in_ok-map_run.ensures
      (subst (λ (left : List PageRun). Going c.args.mem.now c.loop-run.mem c.args.runs.now left) (run_at c.args.runs.now c.loop-run.run-index _ c.loop-run-test.true) c.loop-run.invariant.going);
  can = subst (λ (test : ℕ → Bool). CanMapRuns test (drop (c.loop-run.run-index + 1) c.args.runs.now)) (sym c.in_ok-map_run.ensures.mapped_are)
      (can_more (mapped c.loop-run.mem) c.args.runs.now c.loop-run.run-index _ c.loop-run-test.true c.loop-run.invariant.can);
}

pub returns : goal.returns
returns c =
    going_last _ _ _ (subst (λ (left : List PageRun). Going c.args.mem.now c.loop-run.mem c.args.runs.now left) (drop_of_length-le c.args.runs.now c.loop-run-test.false) c.loop-run.invariant.going)
