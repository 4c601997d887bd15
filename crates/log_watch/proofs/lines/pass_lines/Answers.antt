use Rattle.std.proofs.Common.{refl}
use Rattle.log_watch.proofs.lines.pass_lines.Goals as goal

pub loop-at-init : goal.loop-at-init
loop-at-init g c = record { heads = c.new-heads.ensures c.args.lines.now; size = refl; fed = λ starts are. are }
