use Rattle.std.proofs.Common.{arith, ◌∙◌}
use Rattle.std.proofs.lemmas.List.{length-drop}
use Rattle.std.proofs.Math.Seq.{take-add}
use Rattle.pl_base.proofs.Known.{Appends-then, slice_rest}
use Rattle.pl_base.proofs.loops.write_all_counted.Goals as goal

pub loop-at-preserved : goal.loop-at-preserved
loop-at-preserved g c = record {
  bytes = rw (take-add c.loop-at.at c.in-Ok.count c.args.bytes.now) (Appends-then _ _ _ _ _ c.loop-at.invariant.bytes (rw slice_rest at c.in-Ok.ensures.bytes));
  within = omega (arith, c.in-Ok.ensures.bound.1, length-drop c.loop-at.at c.args.bytes.now);
  quiet = c.in-Ok.ensures.cause.quiet ∙ c.loop-at.invariant.quiet;
}
