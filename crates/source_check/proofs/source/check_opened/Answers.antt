use Rattle.std.proofs.lemmas.Result.{err_from_is_err_and}
use Rattle.log_text.specs.Reading.{HasRead}
use Rattle.log_text.specs.Streaming.{begun_log}
use Rattle.log_text.proofs.StreamLemmas.{taken_within}
use Rattle.source_check.proofs.Growing.{begins}
use Rattle.source_check.proofs.source.check_opened.Goals as goal

pub new-requires : goal.new-requires
new-requires g c = (c.streamed_lines.ensures c.requires.0 c.requires.1 (g.S.Source.left c.args.source.now) c.args.opening.stream (begun_log c.args.opening) c.requires.2).block

pub returns-in_err-check-clause-end : goal.returns-in_err-check-clause-end
returns-in_err-check-clause-end g c = λ limit began streamed.
    let p = err_from_is_err_and c.from_residual.result c.from_residual.ensures.1 in
    rw (p.1, p.2) (taken_within limit began (g.S.Source.left c.args.source.now) c.args.opening.stream.buffer (λ bytes rest. HasRead c.args.opening.stream.reader bytes rest (begun_log c.args.opening)) streamed)

pub check_lines-requires : goal.check_lines-requires
check_lines-requires g c = (c.requires.0, c.requires.1, begun_log c.args.opening, begins c.streamed_lines.ensures c.requires.0 c.requires.1 (g.S.Source.left c.args.source.now) c.args.opening c.in_ok-check.check c.in_ok-check.ensures c.requires.2)

pub returns-clause-ok : goal.returns-clause-ok
returns-clause-ok g c = λ limit began streamed.
    c.check_lines.ensures.ok limit began (begun_log c.args.opening)
    (begins c.streamed_lines.ensures limit began (g.S.Source.left c.args.source.now) c.args.opening c.in_ok-check.check c.in_ok-check.ensures streamed)

pub returns-clause-end : goal.returns-clause-end
returns-clause-end g c = λ limit began streamed.
    c.check_lines.ensures.end limit began (begun_log c.args.opening)
    (begins c.streamed_lines.ensures limit began (g.S.Source.left c.args.source.now) c.args.opening c.in_ok-check.check c.in_ok-check.ensures streamed)
