use Rattle.std.proofs.Common.{ℕ, Option, arith, subst, slice_index}
use Rattle.report_text.specs.FrameWords.{IsAlikeFor}
use Rattle.report_text.proofs.FrameLemmas.{alike_nibbles}
use Rattle.report_text.proofs.frame_runs.FramesNibbles.alike_end.Goals as goal

pub returns-clause-alike : goal.returns-clause-alike
returns-clause-alike c a low high =
    alike_nibbles (slice_index c.args.self.now.words.now) c.args.addr a c.bytes_alike.result low (omega arith)
    (subst (λ (word : Option ℕ). IsAlikeFor word c.args.addr c.bytes_alike.result) c.mapped_word.ensures c.bytes_alike.ensures.alike)
