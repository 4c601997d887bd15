use Rattle.lifeguard_crew.proofs.ReaderSteps.{readers_then}
use Rattle.lifeguard_crew.proofs.reading.read_counted.Goals as goal

pub loop-preserved-in-Ok-Moved : goal.loop-preserved-in-Ok-Moved
loop-preserved-in-Ok-Moved g c =
    readers_then g.P.Plan.planned g.W.TurnWorker.view c.args.monitor.now g.N.RunName.log c.args.rings.now.items c.args.row.now c.loop.row c.turn_readers.new.row c.loop.invariant c.in-Ok-Moved.ensures

pub loop-preserved-in-Ok-Waited : goal.loop-preserved-in-Ok-Waited
loop-preserved-in-Ok-Waited g c =
    readers_then g.P.Plan.planned g.W.TurnWorker.view c.args.monitor.now g.N.RunName.log c.args.rings.now.items c.args.row.now c.loop.row c.turn_readers.new.row c.loop.invariant c.in-Ok-Waited.ensures

pub returns-then-last : goal.returns-then-last
returns-then-last g c on =
    readers_then g.P.Plan.planned g.W.TurnWorker.view c.args.monitor.now g.N.RunName.log c.args.rings.now.items c.args.row.now c.loop.row c.turn_readers.new.row c.loop.invariant c.in-Ok-Ended.ensures

pub loop-preserved : goal.loop-preserved
loop-preserved g c =
    readers_then g.P.Plan.planned g.W.TurnWorker.view c.args.monitor.now g.N.RunName.log c.args.rings.now.items c.args.row.now c.loop.row c.turn_readers.new.row c.loop.invariant c.in-Ok-Ended.ensures
