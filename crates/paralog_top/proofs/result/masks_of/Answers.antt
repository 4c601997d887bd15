use Rattle.std.proofs.Common.{arith, rules}
use Rattle.lifeguard.specs.Shadow.{state_of}
use Rattle.watch_text.proofs.RowLemmas.{row-more}
use Rattle.paralog_top.proofs.result.masks_of.Goals as goal

pub loop-register-preserved : goal.loop-register-preserved
loop-register-preserved g c = record {
  long = search rules;
  told = rw c.mask.ensures (row-more ((state_of c.args.monitor.now.shadow).masks c.args.hart) c.loop-register.masks
      c.loop-register.register (omega arith) c.loop-register.invariant.told);
}
