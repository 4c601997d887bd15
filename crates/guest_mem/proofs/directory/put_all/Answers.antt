use Rattle.std.proofs.Common.{arith, ap, ◌∙◌, ◌+◌, ◌/◌}
use Rattle.guest_mem.proofs.Numbers.{put_more}
use Rattle.guest_mem.proofs.Pages.{mapped-bytes}
use Rattle.guest_mem.proofs.directory.put_all.Goals as goal

pub put-requires-clause-mapped : goal.put-requires-clause-mapped
put-requires-clause-mapped c =
    ap (λ test. test ((c.args.at + c.loop-done.done) / 4096)) c.loop-done.invariant.2
    ∙ mapped-bytes _ _ (c.requires.mapped (c.args.at + c.loop-done.done) (omega arith) (omega arith))

pub loop-done-preserved : goal.loop-done-preserved
loop-done-preserved c = (
  omega arith,
  put_more _ _ _ _ c.loop-done.done _ _ (omega arith) (omega arith) c.loop-done.invariant.1 c.put.ensures.bytes,
  c.put.ensures.mapped ∙ c.loop-done.invariant.2,
  c.put.ensures.texts ∙ c.loop-done.invariant.3,
)
