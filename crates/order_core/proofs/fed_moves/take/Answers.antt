use Rattle.std.proofs.Common.{rules, ◌≡◌, ◌+◌, ◌<◌, ◌≤◌, IsTrue, take, length, slice_index, arith}
use Rattle.std.proofs.lemmas.List.{get_or-take}
use Rattle.order_core.specs.declared.course.Course.{Course}
use Rattle.order_core.specs.declared.feed.HartFeed.{HartFeed}
use Rattle.order_core.specs.Course.{course}
use Rattle.order_core.specs.FedCore.{after_take}
use Rattle.order_core.specs.HartFeeds.{feed_in, feed_of}
use Rattle.order_core.specs.States.{core_of}
use Rattle.order_core.specs.inner.KeptFed.{fed_now}
use Rattle.order_core.specs.inner.KeptFeeds.{IsKeptFeed}
use Rattle.order_core.proofs.FeedLemmas.{taken_within}
use Rattle.order_core.proofs.FeedStates.{fed_set, ring_long}
use Rattle.order_core.proofs.Known.{Known, known}
use Rattle.order_core.proofs.fed_moves.take.Goals as goal

pub took-requires-clause-few : goal.took-requires-clause-few
took-requires-clause-few g c =
    let plan = c.args.plan.now in
    let k : Course = course g.P.Plan.planned plan in
    let is : Known k = known k (g.met.P.Plan.lawful plan) in
    let x : HartFeed = feed_in c.args.state.now.feeds c.args.hart in
    let eight : k.log.harts ≤ 8 = is.harts in
    let harts : c.harts.result ≡ k.log.harts = c.harts.ensures in
    let kept : IsKeptFeed x = c.requires.fits.feeds.each c.args.hart (omega arith) in
    let long : length (take x.count x.chunks) ≡ x.count = ring_long x kept in
    let some : 1 ≤ x.count = omega arith in
    let front : slice_index (take x.count x.chunks) 0 ≡ slice_index x.chunks 0 = get_or-take x.count x.chunks 0 0 some in
    let top : x.taken + slice_index (take x.count x.chunks) 0 ≤ length k.log.lines = taken_within k (fed_now c.args.state.now) c.requires.consistent c.args.hart (omega arith) in
    let few : length k.log.lines < 4294967295 = is.few in
    omega arith

pub returns-clause-made : goal.returns-clause-made
returns-clause-made g c _ =
    let plan = c.args.plan.now in
    let k : Course = course g.P.Plan.planned plan in
    let is : Known k = known k (g.met.P.Plan.lawful plan) in
    let x : HartFeed = feed_in c.args.state.now.feeds c.args.hart in
    let eight : k.log.harts ≤ 8 = is.harts in
    let harts : c.harts.result ≡ k.log.harts = c.harts.ensures in
    let kept : IsKeptFeed x = c.requires.fits.feeds.each c.args.hart (omega arith) in
    let long : length (take x.count x.chunks) ≡ x.count = ring_long x kept in
    let t : IsTrue c.has_passed.result = (let f = c.if-not-has_passed.false in search rules) in
    let all : length c.args.state.now.feeds ≡ 8 = c.requires.fits.feeds.eight in (
      record { hart = omega arith; some = omega arith; passed = c.has_passed.ensures.passed.0 t },
      fed_set (core_of c.args.state.now.core) c.has_passed.new.state c.args.state.now.produced c.args.state.now.feeds c.args.hart c.took.result (after_take (feed_of x)) (omega arith) c.has_passed.ensures.same c.took.ensures.after,
    )
