use Rattle.std.proofs.Common.{◌++◌, List, refl, sym, subst}
use Rattle.pl_event.specs.declared.log.Line.{Line}
use Rattle.log_text.specs.Writing.{log_of}
use Rattle.core_sim.specs.Start.{start_runs}
use Rattle.run_figures.specs.Tallies.{HasTallied, MayTally}
use Rattle.run_figures.proofs.Tallying.{may_tally_step}
use Rattle.run_figures.proofs.counted.count_step.Goals as goal

pub add_all-requires : goal.add_all-requires
add_all-requires c =
    let job = c.args.job.now in
    let front = c.requires.lines in
    let more = c.next.new.lines.items in
    let new = c.next.new.self in
    let next = c.in-Ok-true.ensures.more job front c.requires.running (cc) in
    let may = may_tally_step job front more new (log_of job.harts 16 (start_runs job) (front ++ more)) c.args.tally.now next refl refl (c.recording_lines.ensures.run job (front ++ more) new next) (c.recording_lines.ensures.few job (front ++ more) new next) c.requires.tallied in
    (job.harts, start_runs job, front, subst (λ (ls : List Line). MayTally job.harts (start_runs job) front ls c.args.tally.now) (sym c.deref.ensures.value) may)

pub returns-in_ok-add_all-in-Ok-true-clause-more : goal.returns-in_ok-add_all-in-Ok-true-clause-more
returns-in_ok-add_all-in-Ok-true-clause-more c = λ ok.
    let job = c.args.job.now in
    let front = c.requires.lines in
    let more = c.next.new.lines.items in
    let new = c.next.new.self in
    let next = c.in-Ok-true.ensures.more job front c.requires.running (cc) in
    let may = may_tally_step job front more new (log_of job.harts 16 (start_runs job) (front ++ more)) c.args.tally.now next refl refl (c.recording_lines.ensures.run job (front ++ more) new next) (c.recording_lines.ensures.few job (front ++ more) new next) c.requires.tallied in
    let given = subst (λ (ls : List Line). MayTally job.harts (start_runs job) front ls c.args.tally.now) (sym c.deref.ensures.value) may in
    record {
      lines = front ++ more;
      running = next;
      tallied = subst (λ (ls : List Line). HasTallied job.harts (start_runs job) (front ++ ls) c.add_all.new.self) c.deref.ensures.value (c.in_ok-add_all-in-Ok-true.ensures job.harts (start_runs job) front given);
    }

pub returns-in_ok-add_all-in-Ok-true-clause-within : goal.returns-in_ok-add_all-in-Ok-true-clause-within
returns-in_ok-add_all-in-Ok-true-clause-within c = λ ok. c.in-Ok-true.ensures.within c.args.job.now c.requires.lines c.requires.running (cc)
