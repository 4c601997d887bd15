use Rattle.std.proofs.Common.{rules, ◌≡◌, ℕ, ◌+◌, ◌<◌, ◌≤◌, ◌^◌, ◌∙◌, Some, IsTrue, length, sym, refl, arith}
use Rattle.order_core.specs.declared.course.Course.{Course}
use Rattle.order_core.specs.declared.feed.HartFeed.{HartFeed}
use Rattle.order_core.specs.Course.{course}
use Rattle.order_core.specs.FedCore.{hart_at, with_record}
use Rattle.order_core.specs.HartFeeds.{feed_in, feed_of}
use Rattle.order_core.specs.States.{core_of}
use Rattle.order_core.proofs.KnownLaws.{line_few, line_hart_low}
use Rattle.order_core.proofs.FeedStates.{fed_set}
use Rattle.order_core.proofs.fed_moves.produce.Goals as goal

pub bounds-state-hart : goal.bounds-state-hart
bounds-state-hart g c =
    let plan = c.args.plan.now in
    let k : Course = course g.P.Plan.planned plan in
    line_hart_low k (g.met.P.Plan.lawful plan) c.args.state.now.produced c.in-Some.hart (sym c.line_hart.ensures ∙ c.in-Some.is)

pub with_record-requires-clause-kept : goal.with_record-requires-clause-kept
with_record-requires-clause-kept g c =
    let plan = c.args.plan.now in
    let k : Course = course g.P.Plan.planned plan in
    c.requires.fits.feeds.each c.in-Some.hart (line_hart_low k (g.met.P.Plan.lawful plan) c.args.state.now.produced c.in-Some.hart (sym c.line_hart.ensures ∙ c.in-Some.is))

pub with_record-requires-clause-few : goal.with_record-requires-clause-few
with_record-requires-clause-few g c =
    let x : HartFeed = feed_in c.args.state.now.feeds c.in-Some.hart in
    let most : x.partial ≤ 64 = (c.requires.consistent.feeds c.in-Some.hart).partial in
    omega arith

pub bounds-state-hart-2 : goal.bounds-state-hart-2
bounds-state-hart-2 g c =
    let plan = c.args.plan.now in
    let k : Course = course g.P.Plan.planned plan in
    line_hart_low k (g.met.P.Plan.lawful plan) c.args.state.now.produced c.in-Some.hart (sym c.line_hart.ensures ∙ c.in-Some.is)

pub overflow_add-state : goal.overflow_add-state
overflow_add-state g c =
    let plan = c.args.plan.now in
    let k : Course = course g.P.Plan.planned plan in
    let few : c.args.state.now.produced + 1 < 2 ^ 32 = line_few k (g.met.P.Plan.lawful plan) c.args.state.now.produced c.in-Some.hart (sym c.line_hart.ensures ∙ c.in-Some.is) in
    search rules

pub returns-clause-made : goal.returns-clause-made
returns-clause-made g c _ =
    let plan = c.args.plan.now in
    let k : Course = course g.P.Plan.planned plan in
    let h : ℕ = c.in-Some.hart in
    let x : HartFeed = feed_in c.args.state.now.feeds h in
    let next : hart_at k.log.lines c.args.state.now.produced ≡ Some h = sym c.line_hart.ensures ∙ c.in-Some.is in
    let low : h < 8 = line_hart_low k (g.met.P.Plan.lawful plan) c.args.state.now.produced h next in
    let most : x.partial ≤ 64 = (c.requires.consistent.feeds h).partial in
    let not : x.partial ≡ 64 → ⊥ = (λ e. let t : IsTrue c.has_full_chunk.result = c.has_full_chunk.ensures.1 e in let f = c.if-has_full_chunk.false in search rules) in
    let all : length c.args.state.now.feeds ≡ 8 = c.requires.fits.feeds.eight in (
      h,
      (next, omega arith),
      fed_set (core_of c.args.state.now.core) c.args.state.now.core (c.args.state.now.produced + 1) c.args.state.now.feeds h c.with_record.result (with_record (feed_of x)) (omega arith) refl c.with_record.ensures.after,
    )
