use Rattle.std.proofs.Common.{◌≡◌, ℕ, ◌<◌, ◌^◌, Option, sym, subst, arith}
use Rattle.inherit_track.specs.inner.Oldest.{IsOldestBut}
use Rattle.inherit_track.proofs.HeldLemmas.{held_few}
use Rattle.inherit_track.proofs.OldestLemmas.{none_yet, older_next, oldest_none, oldest_least}
use Rattle.inherit_track.proofs.states.oldest_of.Goals as goal

pub loop-left-init : goal.loop-left-init
loop-left-init c = (
  subst (λ (n : ℕ). n < 2 ^ 34) (sym c.requires.held) (held_few c.args.states.now c.told-states),
  none_yet c.args.states.now c.args.held c.requires.held,
)

pub bounds-states-r : goal.bounds-states-r
bounds-states-r c = c.lowest-r.ensures.few 34 c.loop-left.invariant.0

pub loop-left-preserved : goal.loop-left-preserved
loop-left-preserved c = (
  (let less : c.without-left.result < c.loop-left.left = c.without-left.ensures.less c.lowest-r.ensures.is_in in let few = c.loop-left.invariant.0 in omega arith),
  subst (λ (z : Option ℕ). IsOldestBut c.without-left.result c.args.states.now z) (sym c.older-least.ensures)
      (older_next c.loop-left.left c.without-left.result c.lowest-r.result c.args.states.now c.without-left.ensures.others c.loop-left.least c.loop-left.invariant.1),
)

pub returns-clause-none : goal.returns-clause-none
returns-clause-none c =
    let end : c.loop-left.left ≡ 0 = omega arith in
    oldest_none c.args.states.now c.loop-left.least (subst (λ (n : ℕ). IsOldestBut n c.args.states.now c.loop-left.least) end c.loop-left.invariant.1)

pub returns-clause-least : goal.returns-clause-least
returns-clause-least c =
    let end : c.loop-left.left ≡ 0 = omega arith in
    oldest_least c.args.states.now c.loop-left.least (subst (λ (n : ℕ). IsOldestBut n c.args.states.now c.loop-left.least) end c.loop-left.invariant.1)
