use Rattle.std.proofs.Common.{rules, ◌≡◌, ℕ, suc, ◌+◌, ◌<◌, ◌≤◌, ◌^◌, List, length, take, get_or, Some, slice_get, subst, arith}
use Rattle.std.proofs.lemmas.List.{length-take-le, take_all}
use Rattle.order_core.specs.declared.course.Course.{Course}
use Rattle.order_core.specs.declared.fed_step.FedStep.{FedStep}
use Rattle.order_core.specs.declared.fed_step.FedStep.TheVariants as step
use Rattle.order_core.specs.declared.steps.Act.TheVariants.{See}
use Rattle.order_core.specs.Course.{course}
use Rattle.order_core.specs.FedCore.{opening_fed, IsFedReached}
use Rattle.order_core.specs.FedOutcomes.{IsFirstFedRefused}
use Rattle.order_core.specs.States.{core_of}
use Rattle.order_core.specs.inner.KeptFed.{fed_now}
use Rattle.order_core.proofs.FedRuns.{fed_next, few_fed_writes}
use Rattle.order_core.proofs.KnownLaws.{fed_consistent}
use Rattle.order_core.proofs.RunLemmas.{get_there}
use Rattle.order_core.proofs.fed_run.make_all_fed.Goals as goal

-- what is read of a step that is not there
abbrev nothing : FedStep
nothing = step.Core (record { hart = 0; act = See 0 })

pub make_fed-requires-clause-consistent : goal.make_fed-requires-clause-consistent
make_fed-requires-clause-consistent g c =
    let k : Course = course g.P.Plan.planned c.args.plan.now in
    fed_consistent k (g.met.P.Plan.lawful c.args.plan.now) (take c.loop-at.at c.args.steps.now) (fed_now c.loop-at.state) c.loop-at.invariant.1

pub make_fed-requires-clause-few : goal.make_fed-requires-clause-few
make_fed-requires-clause-few g c h =
    let k : Course = course g.P.Plan.planned c.args.plan.now in
    let few : (core_of c.loop-at.state.core).written h ≤ (opening_fed k).core.written h + length (take c.loop-at.at c.args.steps.now) = few_fed_writes k h (opening_fed k) (take c.loop-at.at c.args.steps.now) (fed_now c.loop-at.state) c.loop-at.invariant.1 in
    let at : length (take c.loop-at.at c.args.steps.now) ≡ c.loop-at.at = length-take-le c.loop-at.at c.args.steps.now (omega arith) in
    let all : length c.args.steps.now < 2 ^ 32 = c.requires.few in
    omega arith

pub returns-then-not-make_fed-clause-refused : goal.returns-then-not-make_fed-clause-refused
returns-then-not-make_fed-clause-refused g c =
    let k : Course = course g.P.Plan.planned c.args.plan.now in
    let s : FedStep = get_or c.args.steps.now c.loop-at.at nothing in
    let there : slice_get c.args.steps.now c.loop-at.at ≡ Some s = get_there c.args.steps.now c.loop-at.at nothing (omega arith) in
    let f = c.if-not-make_fed.true in
    let first : IsFirstFedRefused k c.args.steps.now c.loop-at.at = record { step = s; there = there; before = fed_now c.loop-at.state; reached = c.loop-at.invariant.1; refused = c.make_fed.ensures.refused (search rules) } in
    first

pub loop-at-preserved : goal.loop-at-preserved
loop-at-preserved g c =
    let k : Course = course g.P.Plan.planned c.args.plan.now in
    let s : FedStep = get_or c.args.steps.now c.loop-at.at nothing in
    let there : slice_get c.args.steps.now c.loop-at.at ≡ Some s = get_there c.args.steps.now c.loop-at.at nothing (omega arith) in
    let f = c.if-not-make_fed.false in
    let next : IsFedReached k (take (suc c.loop-at.at) c.args.steps.now) (fed_now c.make_fed.new.state) = fed_next k (opening_fed k) c.args.steps.now c.loop-at.at s (fed_now c.loop-at.state) (fed_now c.make_fed.new.state) there c.loop-at.invariant.1 (c.make_fed.ensures.made (search rules)) in
    let one : suc c.loop-at.at ≡ c.loop-at.at + 1 = omega arith in
    (c.make_fed.ensures.fits (search rules), subst (λ (z : ℕ). IsFedReached k (take z c.args.steps.now) (fed_now c.make_fed.new.state)) one next)

pub returns-clause-made : goal.returns-clause-made
returns-clause-made g c =
    let k : Course = course g.P.Plan.planned c.args.plan.now in
    subst (λ (z : List FedStep). IsFedReached k z (fed_now c.loop-at.state)) (take_all c.loop-at.at c.args.steps.now c.loop-at-test.false) c.loop-at.invariant.1
