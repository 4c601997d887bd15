use Rattle.std.proofs.Common.{◌++◌, get_or, arith}
use Rattle.lifeguard_crew.specs.inner.Online.{IsFed, IsFedUpTo}
use Rattle.ring_feed.proofs.Pairs.{at_get}
use Rattle.lifeguard_crew.proofs.Led.{all_led, as_it_was, one_led}
use Rattle.lifeguard_crew.proofs.pieces.share.Goals as goal

pub feed_own-requires : goal.feed_own-requires
feed_own-requires g c =
    let us = c.loop-i.workers in
    let w = get_or us c.loop-i.i c.index-workers-i.result in
    let piece = c.args.piece.now in (
      c.requires.0,
      as_it_was g.W.TurnWorker.view (IsFedUpTo (piece ++ c.requires.0)) (IsFed piece) c.loop-i.i c.args.workers.now us w c.requires.1 c.loop-i.invariant
          (at_get us c.loop-i.i c.index-workers-i.result (omega arith)),
    )

pub loop-i-preserved : goal.loop-i-preserved
loop-i-preserved g c =
    let us = c.loop-i.workers in
    one_led g.W.TurnWorker.view (IsFed c.args.piece.now) c.loop-i.i c.args.workers.now us (get_or us c.loop-i.i c.index-workers-i.result) c.feed_own.new.worker
    c.loop-i.invariant (at_get us c.loop-i.i c.index-workers-i.result (omega arith)) c.in_ok-feed_own.ensures

pub returns : goal.returns
returns g c =
    all_led g.W.TurnWorker.view (IsFed c.args.piece.now) c.loop-i.i c.args.workers.now c.loop-i.workers (omega arith) c.loop-i.invariant
