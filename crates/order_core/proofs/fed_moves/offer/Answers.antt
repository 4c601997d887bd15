use Rattle.std.proofs.Common.{rules, ◌≡◌, ◌≤◌, ◌⊎◌, IsTrue, take, length, refl, inl, inr, arith}
use Rattle.order_core.specs.declared.course.Course.{Course}
use Rattle.order_core.specs.declared.feed.HartFeed.{HartFeed}
use Rattle.order_core.specs.Course.{course}
use Rattle.order_core.specs.FedCore.{after_offer, IsAllProduced, IsFullChunk, IsHeldUp}
use Rattle.order_core.specs.HartFeeds.{feed_in, feed_of}
use Rattle.order_core.specs.States.{core_of}
use Rattle.order_core.specs.inner.KeptFed.{fed_now}
use Rattle.order_core.specs.inner.KeptFeeds.{IsKeptFeed}
use Rattle.order_core.proofs.FeedStates.{fed_set, ring_long}
use Rattle.order_core.proofs.Known.{Known, known}
use Rattle.order_core.proofs.fed_moves.offer.Goals.{else-not-has_full_chunk-via-then-not-has_full_chunk+else-not-is_waiting, else-not-has_full_chunk-via-else-not-has_full_chunk}
use Rattle.order_core.proofs.fed_moves.offer.Goals as goal

pub returns-clause-made : goal.returns-clause-made
returns-clause-made g c _ =
    let plan = c.args.plan.now in
    let k : Course = course g.P.Plan.planned plan in
    let is : Known k = known k (g.met.P.Plan.lawful plan) in
    let x : HartFeed = feed_in c.args.state.now.feeds c.args.hart in
    let eight : k.log.harts ≤ 8 = is.harts in
    let harts : c.harts.result ≡ k.log.harts = c.harts.ensures in
    let kept : IsKeptFeed x = c.requires.fits.feeds.each c.args.hart (omega arith) in
    let long : length (take x.count x.chunks) ≡ x.count = ring_long x kept in
    let most : x.count ≤ 16 = kept.count in
    let not : length (take x.count x.chunks) ≡ 16 → ⊥ = (λ e. let t : IsTrue c.has_full_ring.result = c.has_full_ring.ensures.1 e in let f = c.if-has_full_ring.false in search rules) in
    let due : IsFullChunk (feed_of x) ⊎ (IsAllProduced k (fed_now c.args.state.now) ⊎ IsHeldUp k (fed_now c.args.state.now)) = (elim c.else-not-has_full_chunk.branch [
      | else-not-has_full_chunk-via-then-not-has_full_chunk+else-not-is_waiting w ↦ inr (w.is_waiting.ensures.0 (let f = w.if-not-is_waiting.false in search rules))
      | else-not-has_full_chunk-via-else-not-has_full_chunk w ↦ inl (c.has_full_chunk.ensures.0 (let f = w.if-not-has_full_chunk.false in search rules))
    ]) in
    let all : length c.args.state.now.feeds ≡ 8 = c.requires.fits.feeds.eight in (
      record { hart = omega arith; some = omega arith; room = omega arith; due = due },
      fed_set (core_of c.args.state.now.core) c.args.state.now.core c.args.state.now.produced c.args.state.now.feeds c.args.hart c.offered.result (after_offer (feed_of x)) (omega arith) refl c.offered.ensures.after,
    )
