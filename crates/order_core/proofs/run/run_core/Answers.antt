use Rattle.std.proofs.Common.{rules, ◌≡◌}
use Rattle.order_core.specs.declared.course.Course.{Course}
use Rattle.order_core.specs.Course.{course}
use Rattle.order_core.specs.States.{core_of}
use Rattle.order_core.proofs.Known.{Known, known}
use Rattle.order_core.proofs.KnownLaws as law
use Rattle.order_core.proofs.RunLemmas.{not_whole, one_first, refused_at}
use Rattle.order_core.proofs.Walks.{names, short}
use Rattle.order_core.proofs.run.run_core.Goals as goal

pub returns-in_err-opening_words-clause-reads : goal.returns-in_err-opening_words-clause-reads
returns-in_err-opening_words-clause-reads g c =
    let k : Course = course g.P.Plan.planned c.args.plan.now in
    law.reads_are_sequential k (g.met.P.Plan.lawful c.args.plan.now) c.args.steps.now

pub returns-in_err-make_all-clause-reads : goal.returns-in_err-make_all-clause-reads
returns-in_err-make_all-clause-reads g c =
    let k : Course = course g.P.Plan.planned c.args.plan.now in
    law.reads_are_sequential k (g.met.P.Plan.lawful c.args.plan.now) c.args.steps.now

pub returns-clause-reads : goal.returns-clause-reads
returns-clause-reads g c =
    let k : Course = course g.P.Plan.planned c.args.plan.now in
    law.reads_are_sequential k (g.met.P.Plan.lawful c.args.plan.now) c.args.steps.now

pub returns-in_err-make_all-clause-exact : goal.returns-in_err-make_all-clause-exact
returns-in_err-make_all-clause-exact g c at other =
    let k : Course = course g.P.Plan.planned c.args.plan.now in
    let is : Known k = known k (g.met.P.Plan.lawful c.args.plan.now) in
    let same : c.in_err-make_all.field-0.0.at ≡ at = one_first k (names (g.P.Plan.planned c.args.plan.now) is) (short (g.P.Plan.planned c.args.plan.now) is) c.args.steps.now c.in_err-make_all.field-0.0.at at c.in_err-make_all.ensures.refused other in
    refused_at c.from_residual-in_err-make_all.result c.in_err-make_all.field-0.0.at at c.from_residual-in_err-make_all.ensures.1 same

pub returns-clause-ran : goal.returns-clause-ran
returns-clause-ran g c =
    let plan = c.args.plan.now in
    let k : Course = course g.P.Plan.planned plan in
    let lawful = g.met.P.Plan.lawful plan in
    let reached = c.in_ok-make_all.ensures.made in
    let now = core_of c.make_all.new.state in
    let consistent = law.consistent k lawful c.args.steps.now now reached in record {
      reached = reached;
      cursors = search rules;
      words = c.in_ok-make_all.ensures.fits.words;
      consistent = consistent;
      late = law.stays_open k lawful now consistent;
      last = law.finishes k lawful now consistent;
      moves = law.moves k lawful now consistent;
      bound = law.few_moves k lawful c.args.steps.now now reached;
    }

pub returns-clause-exact : goal.returns-clause-exact
returns-clause-exact g c at first =
    let k : Course = course g.P.Plan.planned c.args.plan.now in
    let is : Known k = known k (g.met.P.Plan.lawful c.args.plan.now) in
    not_whole k (names (g.P.Plan.planned c.args.plan.now) is) (short (g.P.Plan.planned c.args.plan.now) is) c.args.steps.now at (core_of c.make_all.new.state) first c.in_ok-make_all.ensures.made
