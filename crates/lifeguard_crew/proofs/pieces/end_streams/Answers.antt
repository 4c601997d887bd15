use Rattle.std.proofs.Common.{[], get_or, append-nil, sym, ◌∙◌, arith}
use Rattle.lifeguard_crew.specs.inner.Online.{IsFedUpTo, IsTold}
use Rattle.ring_feed.proofs.Pairs.{at_get}
use Rattle.lifeguard_crew.proofs.Led.{all_led, as_it_was, one_led}
use Rattle.lifeguard_crew.proofs.pieces.end_streams.Goals as goal

pub no_more-requires : goal.no_more-requires
no_more-requires g c =
    let view = g.W.TurnWorker.view in
    let us = c.loop-i.workers in
    let w = get_or us c.loop-i.i c.index-workers-i.result in
    let up = as_it_was view (IsFedUpTo []) IsTold c.loop-i.i c.args.workers.now us w c.requires c.loop-i.invariant
    (at_get us c.loop-i.i c.index-workers-i.result (omega arith)) in
    sym (append-nil (view w).fed) ∙ up

pub loop-i-preserved : goal.loop-i-preserved
loop-i-preserved g c =
    let us = c.loop-i.workers in
    one_led g.W.TurnWorker.view IsTold c.loop-i.i c.args.workers.now us (get_or us c.loop-i.i c.index-workers-i.result) c.no_more.new.self
    c.loop-i.invariant (at_get us c.loop-i.i c.index-workers-i.result (omega arith)) c.no_more.ensures

pub returns : goal.returns
returns g c = all_led g.W.TurnWorker.view IsTold c.loop-i.i c.args.workers.now c.loop-i.workers (omega arith) c.loop-i.invariant
