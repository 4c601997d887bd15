use Rattle.std.proofs.Common.{◌∙◌, ◌<◌, length, arith}
use Rattle.paralog_top.proofs.RunLemmas.{ends_more}
use Rattle.paralog_top.proofs.run.ends.Goals as goal

pub loop-hart-preserved : goal.loop-hart-preserved
loop-hart-preserved c =
    let within : c.loop-hart.hart < length c.args.machine.now.harts = omega arith in
    c.in_ok-push.ensures.items ∙ ends_more c.args.machine.now.harts c.loop-hart.hart c.loop-hart.list.items
    c.outcome.result within c.outcome.ensures.hart c.loop-hart.invariant
