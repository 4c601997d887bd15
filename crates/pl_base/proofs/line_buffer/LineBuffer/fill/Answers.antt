use Rattle.std.proofs.lemmas.Result.{err_from_is_err_and}
use Rattle.pl_base.proofs.Known.{TakesFront-then}
use Rattle.pl_base.proofs.line_buffer.LineBuffer.fill.Goals as goal

pub returns-in_err-read_more-clause-taken : goal.returns-in_err-read_more-clause-taken
returns-in_err-read_more-clause-taken g c =
    let p = err_from_is_err_and c.from_residual.result c.from_residual.ensures.1 in
    let reads = c.loop-self.invariant.reads in
    rw (p.1, p.2) (TakesFront-then _ _ _ _ _ _ _ reads.counted reads.taken c.in_err-read_more.ensures.taken)
