use Rattle.std.proofs.Common.{List}
use Rattle.core_sim.specs.declared.group.StepOut.TheVariants.{Did}
use Rattle.core_sim.specs.declared.job.Job.{Job}
use Rattle.core_sim.specs.Entries.{Entry}
use Rattle.core_sim.specs.Stands.{Comes, GoesOn, Stands}
use Rattle.whence_text.specs.Happened.{happened}
use Rattle.whence_text.proofs.RunLemmas.{all_in_eight, few_happened, followed}
use Rattle.whence_text.proofs.run.step_once.Goals as goal

pub take_events-requires : goal.take_events-requires
take_events-requires c =
    let job = c.args.job.now in
    let entries = c.requires.entries in
    let came : (job : Job) (entries : List Entry) → Stands job entries c.args.machine.now → Comes job entries c.args.machine.now c.step.new.self (Did c.in-Ok-Did.events) =
    rw c.in-Ok-Did.field-0-is at c.in-Ok-Did.ensures.comes in
    let goes : GoesOn job entries c.in-Ok-Did.events c.step.new.self = came job entries c.requires.stands in
    all_in_eight job entries c.args.machine.now c.step.new.self c.in-Ok-Did.events c.requires.stands goes
    (c.run_events.ensures.next job entries goes.entry goes.stands.valid goes.stands.prefix)

pub returns-in-Ok-Did-clause-followed : goal.returns-in-Ok-Did-clause-followed
returns-in-Ok-Did-clause-followed c = λ more.
    let job = c.args.job.now in
    let entries = c.requires.entries in
    let came : (job : Job) (entries : List Entry) → Stands job entries c.args.machine.now → Comes job entries c.args.machine.now c.step.new.self (Did c.in-Ok-Did.events) =
    rw c.in-Ok-Did.field-0-is at c.in-Ok-Did.ensures.comes in
    let goes : GoesOn job entries c.in-Ok-Did.events c.step.new.self = came job entries c.requires.stands in
    let follows = c.run_events.ensures.next job entries goes.entry goes.stands.valid goes.stands.prefix in
    let kept = rw more at c.take_events.ensures.kept in
    followed job entries c.args.machine.now c.step.new.self c.in-Ok-Did.events c.requires.stands goes follows c.pcs_of-pcs.result c.pcs_of-pcs.ensures c.args.pairs.now c.take_events.new.trail
    (kept c.args.pairs.now (happened job entries) (few_happened job entries c.args.machine.now c.step.new.self c.in-Ok-Did.events c.requires.stands goes follows) c.requires.keeps)
