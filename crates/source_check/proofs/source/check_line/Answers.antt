use Rattle.std.proofs.Common.{length}
use Rattle.std.proofs.lemmas.Result.{err_from_is_err_and}
use Rattle.log_text.specs.Reading.{HasRead, IsOnly, with_line, line_of}
use Rattle.log_text.proofs.StreamLemmas.{taken_within}
use Rattle.source_check.proofs.Growing.{checked_all, over_of, row_next, row_of, was_read_as}
use Rattle.source_check.proofs.source.check_line.Goals as goal
use Rattle.std.proofs.Common.{None}
use Rattle.source_check.specs.Answers.{HasOrder}

pub pass_row-requires : goal.pass_row-requires
pass_row-requires g c =
    let limit = c.requires.0 in
    let began = c.requires.1 in
    let log = c.requires.2 in
    let follows = c.requires.3 in
    let found = c.next-next.ensures.row limit began log follows.streamed in
    let some = c.in-Ok-Some.field-0-is in
    let field = rw c.in-Ok-Some.is at some in
    let reads = row_of _ c.next-next.result c.in-Ok-Some.field-0 c.in-Ok-Some.row c.in-Ok-Some.is field found in (
      with_line log (line_of c.next-next.new.self.reader c.in-Ok-Some.row),
      length log.lines,
      row_next c.streamed_lines.ensures c.grown_checks.ensures.checked limit began (g.S.Source.left c.next-next.new.source) c.next-next.new.self c.args.check.now log c.in-Ok-Some.row reads follows.checked,
    )

pub returns-in_err-pass_row-in-Ok-Some-clause-end : goal.returns-in_err-pass_row-in-Ok-Some-clause-end
returns-in_err-pass_row-in-Ok-Some-clause-end g c = λ limit began log follows.
    let p = err_from_is_err_and c.from_residual.result c.from_residual.ensures.1 in
    let found = c.next-next.ensures.row limit began log follows.streamed in
    let some = c.in-Ok-Some.field-0-is in
    let field = rw c.in-Ok-Some.is at some in
    let reads = row_of _ c.next-next.result c.in-Ok-Some.field-0 c.in-Ok-Some.row c.in-Ok-Some.is field found in
    let reader = c.next-next.new.self.reader in
    rw (p.1, p.2) (taken_within limit began (g.S.Source.left c.next-next.new.source) c.next-next.new.self.buffer (λ bytes rest. HasRead reader bytes rest (with_line log (line_of reader c.in-Ok-Some.row))) reads.read)

pub returns-in-None-clause-step : goal.returns-in-None-clause-step
returns-in-None-clause-step g c = λ limit began log follows.
    let found = c.next-next.ensures.row limit began log follows.streamed in
    let some = c.in-Ok-Some.field-0-is in
    let field = rw c.in-Ok-Some.is at some in
    let reads = row_of _ c.next-next.result c.in-Ok-Some.field-0 c.in-Ok-Some.row c.in-Ok-Some.is field found in
    let line = line_of c.next-next.new.self.reader c.in-Ok-Some.row in
    let may = row_next c.streamed_lines.ensures c.grown_checks.ensures.checked limit began (g.S.Source.left c.next-next.new.source) c.next-next.new.self c.args.check.now log c.in-Ok-Some.row reads follows.checked in
    let passed = c.in_ok-pass_row-in-Ok-Some.ensures (with_line log line) (length log.lines) may in
    let checked = rw c.in-None.is at passed in
    (with_line log line, record { streamed = reads.read; checked = checked_all c.pass_row.new.check log line checked })

pub returns-in-Some-clause-step : goal.returns-in-Some-clause-step
returns-in-Some-clause-step g c = λ limit began log follows.
    let found = c.next-next.ensures.row limit began log follows.streamed in
    let some = c.in-Ok-Some.field-0-is in
    let field = rw c.in-Ok-Some.is at some in
    let reads = row_of _ c.next-next.result c.in-Ok-Some.field-0 c.in-Ok-Some.row c.in-Ok-Some.is field found in
    let line = line_of c.next-next.new.self.reader c.in-Ok-Some.row in
    let may = row_next c.streamed_lines.ensures c.grown_checks.ensures.checked limit began (g.S.Source.left c.next-next.new.source) c.next-next.new.self c.args.check.now log c.in-Ok-Some.row reads follows.checked in
    let passed = c.in_ok-pass_row-in-Ok-Some.ensures (with_line log line) (length log.lines) may in
    let named = rw c.in-Some.is at passed in
    record { log = with_line log line; streamed = reads.read; named = named }

pub returns-in-Ok-None-clause-step : goal.returns-in-Ok-None-clause-step
returns-in-Ok-None-clause-step g c = λ limit began log follows.
    let missed = c.next-next.ensures.over limit began log follows.streamed in
    let none = c.in-Ok-None.field-0-is in
    let field = rw c.in-Ok-None.is at none in
    let was = over_of _ c.next-next.result c.in-Ok-None.field-0 c.in-Ok-None.is field missed in
    was_read_as limit began (g.S.Source.left c.next-next.new.source) (λ bytes. IsOnly bytes log) (λ bytes. HasOrder bytes None) (λ bytes only. record { log = log; only = only; order = follows.checked.ordered }) was

pub returns-in-Err-clause-end : goal.returns-in-Err-clause-end
returns-in-Err-clause-end g c = λ limit began log follows.
    let end = c.next-next.ensures.end limit began log follows.streamed in
    rw c.in-Err.is at end
