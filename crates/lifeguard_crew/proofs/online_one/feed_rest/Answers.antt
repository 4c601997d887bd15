use Rattle.std.proofs.Common.{[]}
use Rattle.lifeguard_crew.specs.inner.Online.{IsOfRun, IsSameWorker}
use Rattle.lifeguard_crew.proofs.Led.{every_led, led_then, run_same, same_then, up_to}
use Rattle.lifeguard_crew.proofs.online_one.feed_rest.Goals as goal

pub pass_piece-requires-clause-run : goal.pass_piece-requires-clause-run
pass_piece-requires-clause-run g c =
    let planned = g.P.Plan.planned in
    let m = c.args.monitor.now in
    every_led g.W.TurnWorker.view (IsOfRun planned m) (IsOfRun planned m) IsSameWorker c.args.workers.now c.pieces.workers
    (run_same planned m) c.requires.run c.pieces.invariant.same

pub returns-then-branch-clause-same : goal.returns-then-branch-clause-same
returns-then-branch-clause-same g c =
    led_then g.W.TurnWorker.view IsSameWorker IsSameWorker IsSameWorker c.args.workers.now c.pieces.workers c.pass_piece.new.workers
    same_then c.pieces.invariant.same c.in_ok-pass_piece.ensures.same

pub returns-then-branch-clause-fed : goal.returns-then-branch-clause-fed
returns-then-branch-clause-fed g c k w at =
    up_to (g.F.Feed.rest c.pass_piece.new.feed) [] (g.W.TurnWorker.view w) (c.in_ok-pass_piece.ensures.none c.if-branch.true)
    (c.in_ok-pass_piece.ensures.fed k w at)

pub pieces-preserved : goal.pieces-preserved
pieces-preserved g c = record {
  same = led_then g.W.TurnWorker.view IsSameWorker IsSameWorker IsSameWorker c.args.workers.now c.pieces.workers c.pass_piece.new.workers
      same_then c.pieces.invariant.same c.in_ok-pass_piece.ensures.same;
  fed = c.in_ok-pass_piece.ensures.fed;
}
