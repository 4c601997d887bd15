use Rattle.std.proofs.Common.{◌≡◌}
use Rattle.order_core.specs.declared.course.Course.{Course}
use Rattle.order_core.specs.Course.{course}
use Rattle.order_core.specs.FedCore.{FedCore}
use Rattle.order_core.specs.inner.KeptFed.{fed_now}
use Rattle.order_core.proofs.FedRuns.{fed_not_whole, fed_one_first}
use Rattle.order_core.proofs.Known.{Known, known}
use Rattle.order_core.proofs.KnownLaws as law
use Rattle.order_core.proofs.RunLemmas.{refused_at}
use Rattle.order_core.proofs.Walks.{names, short}
use Rattle.order_core.proofs.fed_run.run_fed.Goals as goal

pub returns-in_err-make_all_fed-clause-exact : goal.returns-in_err-make_all_fed-clause-exact
returns-in_err-make_all_fed-clause-exact g c at other =
    let k : Course = course g.P.Plan.planned c.args.plan.now in
    let is : Known k = known k (g.met.P.Plan.lawful c.args.plan.now) in
    let same : c.in_err-make_all_fed.field-0.0.at ≡ at = fed_one_first k (names (g.P.Plan.planned c.args.plan.now) is) (short (g.P.Plan.planned c.args.plan.now) is) c.args.steps.now c.in_err-make_all_fed.field-0.0.at at c.in_err-make_all_fed.ensures.refused other in
    refused_at c.from_residual-in_err-make_all_fed.result c.in_err-make_all_fed.field-0.0.at at c.from_residual-in_err-make_all_fed.ensures.1 same

pub returns-clause-ran : goal.returns-clause-ran
returns-clause-ran g c =
    let plan = c.args.plan.now in
    let k : Course = course g.P.Plan.planned plan in
    let lawful = g.met.P.Plan.lawful plan in
    let reached = c.in_ok-make_all_fed.ensures.made in
    let f : FedCore = fed_now c.make_all_fed.new.state in
    let consistent = law.fed_consistent k lawful c.args.steps.now f reached in record {
      reached = reached;
      cursors = record { harts = c.taken_cursors-state.ensures.harts; others = c.taken_cursors-state.ensures.others };
      words = c.in_ok-make_all_fed.ensures.fits.core.words;
      consistent = consistent;
      last = law.finishes k lawful f.core consistent.core;
      moves = law.fed_moves k lawful f consistent;
    }

pub returns-clause-exact : goal.returns-clause-exact
returns-clause-exact g c at first =
    let k : Course = course g.P.Plan.planned c.args.plan.now in
    let is : Known k = known k (g.met.P.Plan.lawful c.args.plan.now) in
    fed_not_whole k (names (g.P.Plan.planned c.args.plan.now) is) (short (g.P.Plan.planned c.args.plan.now) is) c.args.steps.now at (fed_now c.make_all_fed.new.state) first c.in_ok-make_all_fed.ensures.made
