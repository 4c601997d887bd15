use Rattle.std.proofs.lemmas.Result.{err_from_is_err_and}
use Rattle.std.proofs.Common.{subst}
use Rattle.pl_event.specs.declared.log.Log.{Log}
use Rattle.log_text.specs.Reading.{HasRead, IsOnly, with_line, line_of}
use Rattle.log_text.specs.Streaming.{WasRead}
use Rattle.log_text.proofs.ReaderLemmas.{same_lines}
use Rattle.log_text.proofs.StreamLemmas.{taken_within}
use Rattle.log_text.proofs.source.read_line.Goals as goal

pub returns-in_err-push_to-in-Ok-Some-clause-end : goal.returns-in_err-push_to-in-Ok-Some-clause-end
returns-in_err-push_to-in-Ok-Some-clause-end g c = λ limit began log same streamed.
    let p = err_from_is_err_and c.from_residual.result c.from_residual.ensures.1 in
    let found = c.in-Ok-Some.ensures.row limit began log streamed in
    let reads = rw c.in-Ok-Some.field-0-is at found in
    let reader = c.next.new.self.reader in
    rw (p.1, p.2) (taken_within limit began (g.S.Source.left c.next.new.source) c.next.new.self.buffer (λ bytes rest. HasRead reader bytes rest (with_line log (line_of reader c.in-Ok-Some.row))) reads.read)

pub returns-in-Ok-None-clause-over : goal.returns-in-Ok-None-clause-over
returns-in-Ok-None-clause-over g c = λ limit began log same streamed _.
    let missed = c.in-Ok-None.ensures.over limit began log streamed in
    let was = rw c.in-Ok-None.field-0-is at missed in
    subst (λ (l : Log). WasRead limit began (g.S.Source.left c.next.new.source) (λ bytes. IsOnly bytes l)) (same_lines log c.args.lines.now same) was

pub returns-in-Err-clause-end : goal.returns-in-Err-clause-end
returns-in-Err-clause-end g c = λ limit began log same streamed. c.in-Err.ensures.end limit began log streamed
