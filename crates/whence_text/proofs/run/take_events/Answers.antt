use Rattle.std.proofs.Common.{rules, arith}
use Rattle.std.specs.Prelude.{slice_index}
use Rattle.whence_text.proofs.RunLemmas.{take_all, take_more, take_none}
use Rattle.whence_text.proofs.run.take_events.Goals as goal

pub each-init : goal.each-init
each-init c = take_none (slice_index c.args.pcs.now) c.args.events.now c.args.trail.now

pub each-preserved : goal.each-preserved
each-preserved c =
    take_more (slice_index c.args.pcs.now) c.args.events.now c.args.trail.now c.each.trail c.take.new.self c.each.place c.at-event.result _ c.at-event.ensures (search rules) c.in_ok-take.ensures c.each.invariant

pub returns-clause-kept : goal.returns-clause-kept
returns-clause-kept c = take_all (slice_index c.args.pcs.now) c.args.events.now c.args.trail.now c.each.trail c.each.place (omega arith) c.each.invariant
