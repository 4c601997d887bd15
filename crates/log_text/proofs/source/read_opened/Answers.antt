use Rattle.std.proofs.Common.{sym}
use Rattle.log_text.specs.Streaming.{begun_log}
use Rattle.log_text.proofs.source.read_opened.Goals as goal

pub returns-in-Ok-clause-ok : goal.returns-in-Ok-clause-ok
returns-in-Ok-clause-ok g c = λ limit began streamed. c.in-Ok.ensures.ok limit began (begun_log c.args.opening) (sym c.new-lines.ensures) streamed

pub returns-in-Err-clause-end : goal.returns-in-Err-clause-end
returns-in-Err-clause-end g c = λ limit began streamed. c.in-Err.ensures.end limit began (begun_log c.args.opening) (sym c.new-lines.ensures) streamed
