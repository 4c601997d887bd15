use Rattle.std.proofs.Common.{Some}
use Rattle.source_check.specs.Answers.{HasOrder}
use Rattle.source_check.specs.inner.Checking.{BeginsWith}
use Rattle.source_check.proofs.Growing.{was_read_as}
use Rattle.source_check.proofs.source.told_last.Goals as goal

pub returns-in-Ok-clause-ok : goal.returns-in-Ok-clause-ok
returns-in-Ok-clause-ok g c = λ limit began has.
    was_read_as limit began (g.S.Source.left c.skip_lines.new.source) (BeginsWith has.log) (λ bytes. HasOrder bytes (Some c.args.pair))
    (λ bytes begins. record { log = begins.whole; only = begins.only; order = c.grown_checks.ensures.named has.log begins.whole c.args.pair.earlier c.args.pair.later begins.grows has.named })
    (c.in-Ok.ensures.ok limit began has.log has.streamed)

pub returns-in-Err-clause-end : goal.returns-in-Err-clause-end
returns-in-Err-clause-end g c = λ limit began has. c.in-Err.ensures.end limit began has.log has.streamed
