use Rattle.std.proofs.Common.{arith, rules, slice_index}
use Rattle.watch_text.proofs.RowLemmas.{row-more}
use Rattle.watch_text.proofs.rows.row.Goals as goal

pub loop-register-preserved : goal.loop-register-preserved
loop-register-preserved c = record {
  long = search rules;
  told = row-more (slice_index c.args.found.now.masks) c.loop-register.masks c.loop-register.register
      (omega arith) c.loop-register.invariant.told;
}
