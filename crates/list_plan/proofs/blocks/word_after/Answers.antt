use Rattle.std.proofs.Common.{arith}
use Rattle.list_plan.specs.inner.Changes.{changed_nibble}
use Rattle.list_plan.proofs.BlockLemmas.{changed_is}
use Rattle.list_plan.proofs.blocks.word_after.Goals as goal

pub returns-clause-value : goal.returns-clause-value
returns-clause-value g c =
    let inv = c.loop-i.invariant in
    changed_is (changed_nibble (g.L.Lifeguard.rules c.args.guard) c.args.change) c.args.addr c.args.len c.args.block c.args.word c.loop-i.after inv.wide inv.small (λ k lt. inv.done k (omega (arith, lt, c.loop-i-test.false)))
