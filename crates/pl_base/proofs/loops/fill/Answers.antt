use Rattle.std.proofs.Common.{arith, ◌∙◌}
use Rattle.std.proofs.lemmas.List.{length-append, length-take}
use Rattle.std.proofs.lemmas.Result.{err_from_is_err_and}
use Rattle.pl_base.proofs.Known.{TakesBetween-then, Consumes-then, Consumes-longer, Consumes-nothing, Consumes-whole}
use Rattle.pl_base.proofs.loops.fill.Goals as goal

pub returns-then-count-eq0-clause-whole : goal.returns-then-count-eq0-clause-whole
returns-then-count-eq0-clause-whole g c =
    Consumes-whole _ _ _ (c.in-Ok.ensures.bytes.1 c.if-count-eq0.true (omega arith)) (Consumes-nothing _ _ _ _ _ c.if-count-eq0.true c.loop-count.invariant.bytes c.in-Ok.ensures.bytes.0)

pub returns-then-count-limit-clause-too_long : goal.returns-then-count-limit-clause-too_long
returns-then-count-limit-clause-too_long g c = λ _.
    Consumes-longer _ _ _ _ (simp (length-append, length-take) (omega (arith, c.in-Ok.ensures.bound.0))) (Consumes-then _ _ _ _ _ c.loop-count.invariant.bytes c.in-Ok.ensures.bytes.0)

pub loop-count-preserved : goal.loop-count-preserved
loop-count-preserved g c = record {
  bytes = rw c.in_ok-extend_from_slice.ensures.items (Consumes-then _ _ _ _ _ c.loop-count.invariant.bytes c.in-Ok.ensures.bytes.0);
  within = let e = c.in_ok-extend_from_slice.ensures.len in omega (arith, c.in-Ok.ensures.bound.0, length-take c.in-Ok.count c.read.new.into, e);
  quiet = c.in-Ok.ensures.cause.quiet ∙ c.loop-count.invariant.quiet;
  room = omega arith;
}

pub returns-then-count-limit-clause-taken : goal.returns-then-count-limit-clause-taken
returns-then-count-limit-clause-taken g c =
    TakesBetween-then _ _ _ _ _ _ _ c.loop-count.invariant.bytes c.in-Ok.ensures.bytes.0
    (simp (length-append, length-take) (omega (arith, c.in-Ok.ensures.bound.0)))
    (simp (length-append, length-take) (omega (arith, c.in-Ok.ensures.bound.0)))

pub returns-in_err-extend_from_slice-clause-taken : goal.returns-in_err-extend_from_slice-clause-taken
returns-in_err-extend_from_slice-clause-taken g c =
    let p = err_from_is_err_and c.from_residual.result c.from_residual.ensures.1 in
    rw (p.1, p.2) (TakesBetween-then _ _ _ _ _ _ _ c.loop-count.invariant.bytes c.in-Ok.ensures.bytes.0
    (omega arith)
    (simp (length-append, length-take) (omega (arith, c.in-Ok.ensures.bound.0))))
