use Rattle.std.proofs.Common.{rules, arith, ◌≡◌, ◌-◌, ap, sym, ◌∙◌}
use Rattle.whence_trail.specs.Blocks.{latest_in}
use Rattle.whence_trail.specs.Nearness.{below}
use Rattle.whence_trail.proofs.TrailLemmas.{below_found, below_missed}
use Rattle.whence_trail.proofs.near.below.Goals as goal

pub returns-in-Some : goal.returns-in-Some
returns-in-Some c =
    below_found (latest_in c.args.blocks.now) c.args.reach c.below.step c.args.addr c.below.at c.saturating_sub-at.result (omega arith) c.below.invariant (search rules) c.in-Some.block (search rules)

pub below-preserved : goal.below-preserved
below-preserved c =
    below_missed (latest_in c.args.blocks.now) c.args.reach c.below.step c.args.addr c.below.at c.saturating_sub-at.result (omega arith) c.below.invariant (search rules) (search rules)

pub returns : goal.returns
returns c =
    let none : c.args.reach - c.below.step ≡ 0 = omega arith in
    sym (c.below.invariant ∙ ap (λ n. below (latest_in c.args.blocks.now) n c.below.at) none)
