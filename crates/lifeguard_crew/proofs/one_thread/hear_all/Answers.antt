use Rattle.std.proofs.Common.{◌≡◌, length, map, arith}
use Rattle.std.proofs.lemmas.List.{length-map}
use Rattle.lifeguard_crew.proofs.Same.{still_ready}
use Rattle.lifeguard_crew.proofs.Heard.{heard_one, taught_same}
use Rattle.lifeguard_crew.proofs.one_thread.hear_all.Goals as goal

pub hear-requires-clause-ready : goal.hear-requires-clause-ready
hear-requires-clause-ready g c =
    let view = g.W.TurnWorker.view in
    let o = c.loop-i.invariant in
    still_ready g.P.Plan.planned view c.args.monitor.now c.args.workers.now c.loop-i.workers c.requires
    (taught_same (map view c.args.workers.now) (map view c.loop-i.workers) o.size o.same)

pub loop-i-preserved : goal.loop-i-preserved
loop-i-preserved g c =
    let view = g.W.TurnWorker.view in
    let us = c.loop-i.workers in
    let long : length (map view us) ≡ length us = length-map us view in
    heard_one c.loop-i.i (length us) (map view c.args.workers.now) (map view us) (map view c.hear.new.workers) (omega arith)
    c.loop-i.invariant c.hear.ensures
