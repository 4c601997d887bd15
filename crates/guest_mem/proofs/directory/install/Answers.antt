use Rattle.std.proofs.Common.{arith, ◌<◌, vec_len, IsSome}
use Rattle.std.proofs.lemmas.List.Elements.{All-pop}
use Rattle.guest_mem.specs.Directory.{IsZeroPage}
use Rattle.guest_mem.proofs.Repages.{repages_more, repages_none, zeros_show}
use Rattle.guest_mem.proofs.directory.install.Goals as goal

pub loop-number-init : goal.loop-number-init
loop-number-init c = (repages_none _ _ _ _ _ _ (omega arith), c.in_ok-fresh.ensures.zeros, omega (arith, c.in_ok-fresh.ensures.count))

pub loop-number-preserved : goal.loop-number-preserved
loop-number-preserved c =
    let popped = All-pop (IsZeroPage c.args.text) c.loop-number.fresh.items c.pop.new.self.items c.pop.result c.pop.ensures.items c.loop-number.invariant.1 in
    let more : 0 < vec_len c.loop-number.fresh = omega arith in
    let some : IsSome c.pop.result = c.pop.ensures.variant.1 more in (
      repages_more _ _ _ _ _ _ c.pop.result _ _ _ (omega arith) (omega arith) (omega arith) (zeros_show _ _ some popped.1) c.loop-number.invariant.0,
      popped.0,
      grind arith,
    )
