use Rattle.std.proofs.Common.{arith, None, ◌<◌, length}
use Rattle.guest_mem.proofs.Repages.{repages_more, repages_none, nothing_shows}
use Rattle.guest_mem.proofs.directory.clear.Goals as goal

pub loop-number-init : goal.loop-number-init
loop-number-init c = repages_none _ _ _ _ _ _ (omega arith)

pub loop-number-preserved : goal.loop-number-preserved
loop-number-preserved c =
    let within : c.loop-number.number < length c.args.pages.now = c.requires c.loop-number.number (omega arith) (omega arith) in
    repages_more _ _ _ _ _ _ None _ _ _ (omega arith) (omega arith) (omega (arith, within)) nothing_shows c.loop-number.invariant
