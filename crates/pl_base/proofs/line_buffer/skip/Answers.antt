use Rattle.std.proofs.Common.{arith, ◌∙◌}
use Rattle.std.proofs.lemmas.List.{length-append, length-take}
use Rattle.pl_base.proofs.Known.{TakesBetween-then}
use Rattle.pl_base.proofs.line_buffer.skip.Goals as goal

pub loop-count-preserved : goal.loop-count-preserved
loop-count-preserved g c = record {
  taken =
      TakesBetween-then _ _ _ _ _ _ _ c.loop-count.invariant.taken.taken c.in-Ok.ensures.bytes.0
      (simp (length-append, length-take) (omega (arith, c.in-Ok.ensures.bound.0, c.loop-count.invariant.taken.long)))
      (simp (length-append, length-take) (omega (arith, c.in-Ok.ensures.bound.0, c.loop-count.invariant.taken.short)));
  within = omega arith;
  quiet = c.in-Ok.ensures.cause.quiet ∙ c.loop-count.invariant.quiet;
  room = omega arith;
}

pub returns-then-count-spare-clause-taken : goal.returns-then-count-spare-clause-taken
returns-then-count-spare-clause-taken g c =
    TakesBetween-then _ _ _ _ _ _ _ c.loop-count.invariant.taken.taken c.in-Ok.ensures.bytes.0
    (simp (length-append, length-take) (omega (arith, c.in-Ok.ensures.bound.0, c.loop-count.invariant.taken.long)))
    (simp (length-append, length-take) (omega (arith, c.in-Ok.ensures.bound.0, c.loop-count.invariant.taken.short)))
