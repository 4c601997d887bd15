use Rattle.std.proofs.Common.{◌≡◌, ◌++◌, List, sym, ap, ◌∙◌}
use Rattle.pl_event.specs.declared.fed.Fed.{Fed}
use Rattle.lifeguard_crew.specs.inner.Online.{Every, IsFed, IsFedUpTo, IsOfRun, IsSameWorker, IsTurned}
use Rattle.lifeguard_crew.proofs.Led.{every_led, fed_next, led_then, passed_same, run_fed, turned_next, up_to}
use Rattle.lifeguard_crew.proofs.online_one.pass_piece.Goals as goal

pub share-requires : goal.share-requires
share-requires g c =
    let piece : List Fed = c.as_slice.result.now in
    let rest : List Fed = g.F.Feed.rest c.take_piece.new.feed in
    let all : g.F.Feed.rest c.args.feed.now ≡ piece ++ rest = c.in_ok-piece.ensures.taken ∙ ap (λ (z : List Fed). z ++ rest) (sym c.as_slice.ensures.value) in
    (rest, λ k w at. up_to (g.F.Feed.rest c.args.feed.now) (piece ++ rest) (g.W.TurnWorker.view w) all (c.requires.fed k w at))

pub turn_piece-requires : goal.turn_piece-requires
turn_piece-requires g c =
    let planned = g.P.Plan.planned in
    let m = c.args.monitor.now in
    let piece : List Fed = c.as_slice.result.now in
    every_led g.W.TurnWorker.view (IsOfRun planned m) (IsOfRun planned m) (IsFed piece) c.args.workers.now c.share.new.workers
    (run_fed planned m piece) c.requires.run c.in_ok-share.ensures

pub returns-clause-same : goal.returns-clause-same
returns-clause-same g c =
    let piece : List Fed = c.as_slice.result.now in
    led_then g.W.TurnWorker.view (IsFed piece) IsTurned IsSameWorker c.args.workers.now c.share.new.workers c.turn_piece.new.workers
    (passed_same piece) c.in_ok-share.ensures c.in_ok-turn_piece.ensures

pub returns-clause-fed : goal.returns-clause-fed
returns-clause-fed g c =
    let view = g.W.TurnWorker.view in
    let piece : List Fed = c.as_slice.result.now in
    let rest : List Fed = g.F.Feed.rest c.take_piece.new.feed in
    let all : g.F.Feed.rest c.args.feed.now ≡ piece ++ rest = c.in_ok-piece.ensures.taken ∙ ap (λ (z : List Fed). z ++ rest) (sym c.as_slice.ensures.value) in
    let start : Every (IsFedUpTo (piece ++ rest)) view c.args.workers.now =
    λ k w at. up_to (g.F.Feed.rest c.args.feed.now) (piece ++ rest) (view w) all (c.requires.fed k w at) in
    let shared : Every (IsFedUpTo rest) view c.share.new.workers = every_led view (IsFedUpTo (piece ++ rest)) (IsFedUpTo rest) (IsFed piece)
    c.args.workers.now c.share.new.workers (fed_next piece rest) start c.in_ok-share.ensures in
    every_led view (IsFedUpTo rest) (IsFedUpTo rest) IsTurned c.share.new.workers c.turn_piece.new.workers (turned_next rest) shared c.in_ok-turn_piece.ensures
