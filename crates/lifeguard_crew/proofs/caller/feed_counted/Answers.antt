use Rattle.lifeguard_crew.proofs.ReaderSteps.{readers_then}
use Rattle.lifeguard_crew.proofs.caller.feed_counted.Goals as goal

pub returns-in-Ok-Ended-clause-keeps : goal.returns-in-Ok-Ended-clause-keeps
returns-in-Ok-Ended-clause-keeps g c on =
    readers_then g.P.Plan.planned g.W.TurnWorker.view c.args.monitor.now g.N.RunName.log c.args.rings.now.items c.args.row.now c.loop.row c.pass_on.new.row
    c.loop.invariant.keeps c.in-Ok-Ended.ensures.keeps

pub loop-preserved-in-Ok-Fed : goal.loop-preserved-in-Ok-Fed
loop-preserved-in-Ok-Fed g c = record {
  outlets = c.in-Ok-Fed.ensures.outlets;
  keeps = readers_then g.P.Plan.planned g.W.TurnWorker.view c.args.monitor.now g.N.RunName.log c.args.rings.now.items c.args.row.now c.loop.row c.pass_on.new.row
      c.loop.invariant.keeps c.in-Ok-Fed.ensures.keeps;
}

pub loop-preserved : goal.loop-preserved
loop-preserved g c = record {
  outlets = c.in-Ok-Full.ensures.outlets;
  keeps = readers_then g.P.Plan.planned g.W.TurnWorker.view c.args.monitor.now g.N.RunName.log c.args.rings.now.items c.args.row.now c.loop.row c.pass_on.new.row
      c.loop.invariant.keeps c.in-Ok-Full.ensures.keeps;
}
