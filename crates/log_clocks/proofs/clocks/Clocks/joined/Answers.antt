use Rattle.std.proofs.Common.{◌≡◌, ◌+◌, ◌≤◌, true, false, max, sym, ap, ◌∙◌, subst, arith}
use Rattle.log_clocks.specs.declared.clock.Clock.{Clock}
use Rattle.log_clocks.specs.Clocks.{time, known}
use Rattle.log_clocks.specs.inner.Joins.{IsJoin}
use Rattle.log_clocks.proofs.Joining.{join_none, join_some, join_known}
use Rattle.log_clocks.proofs.clocks.Clocks.joined.Goals.{in-Some+then-get-number, in-Some+else-get-number, in_default}
use Rattle.log_clocks.proofs.clocks.Clocks.joined.Goals as goal

pub loop-u-preserved : goal.loop-u-preserved
loop-u-preserved c = elim c.match-get.branch [
  | in-Some+then-get-number w ↦ (
    λ closed. join_some c.args.needs.now (known c.args.self.now) (time c.args.clock) c.loop-u.u w.in-Some.number (time c.loop-u.joined) (time c.match-get.joined)
        (sym c.get.ensures ∙ w.in-Some.is)
        (λ u. ap (λ (z : Clock). time z u) w.joined-is ∙ (w.raise.ensures u ∙ ap (max (time c.loop-u.joined u)) (w.of.ensures u)))
        (c.loop-u.invariant.0 closed),
    λ e. absurd (let f : true ≡ false = sym w.is_raised-is ∙ e in cc),
  )
  | in-Some+else-get-number w ↦ (
    λ closed. subst (λ (z : Clock). IsJoin c.args.needs.now (c.loop-u.u + 1) (known c.args.self.now) (time c.args.clock) (time z)) (sym w.joined-is)
        (join_known c.args.needs.now (known c.args.self.now) (time c.args.clock) c.loop-u.u w.in-Some.number (time c.loop-u.joined) c.loop-u-test.true
        (sym c.get.ensures ∙ w.in-Some.is) closed
        (let l : w.in-Some.number ≤ w.get-in-Some.result = w.if-get-number.false in let e : w.get-in-Some.result ≡ time c.loop-u.joined c.loop-u.u = w.get-in-Some.ensures in omega arith)
        (c.loop-u.invariant.0 closed)),
    λ e. w.joined-is ∙ c.loop-u.invariant.1 (sym w.is_raised-is ∙ e),
  )
  | in_default w ↦ (
    λ closed. subst (λ (z : Clock). IsJoin c.args.needs.now (c.loop-u.u + 1) (known c.args.self.now) (time c.args.clock) (time z)) (sym w.joined-is)
        (join_none c.args.needs.now (known c.args.self.now) (time c.args.clock) c.loop-u.u (time c.loop-u.joined) (λ k e. w.in_default.not-Some k (c.get.ensures ∙ e)) (c.loop-u.invariant.0 closed)),
    λ e. w.joined-is ∙ c.loop-u.invariant.1 (sym w.is_raised-is ∙ e),
  )
]
