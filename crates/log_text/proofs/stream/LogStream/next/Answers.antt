use Rattle.std.proofs.lemmas.Result.{err_from_is_err_and}
use Rattle.log_text.specs.Reading.{HasRead, IsOnly, IsNoLog}
use Rattle.log_text.proofs.StreamLemmas.{known_streamed, over_streamed, row_there}
use Rattle.log_text.proofs.stream.LogStream.next.Goals as goal

pub returns-in_err-get_ready-clause-end : goal.returns-in_err-get_ready-clause-end
returns-in_err-get_ready-clause-end g c = λ limit began log streamed.
    let p = err_from_is_err_and c.from_residual.result c.from_residual.ensures.1 in
    rw (p.1, p.2) (c.in_err-get_ready.ensures.not_streamed limit began log streamed)

pub returns-in-Ok-Some-clause-row : goal.returns-in-Ok-Some-clause-row
returns-in-Ok-Some-clause-row g c = λ limit began log streamed.
    let now = g.S.Source.left c.get_ready.new.source in
    let mid = c.get_ready.new.self in
    let there = c.in_ok-get_ready.ensures.streamed limit began log streamed in
    rw c.pass.ensures (row_there limit began now mid c.next.new.self log c.in-Ok-Some.row c.front.result.now c.front.ensures c.in_ok-get_ready.ensures.ready there
    (λ bytes later holds has.
    let found = c.in-Ok-Some.ensures.row bytes later log holds has in
    let reads = rw c.in-Ok-Some.field-0-is at found in
    reads))

pub returns-in-Ok-None-clause-over : goal.returns-in-Ok-None-clause-over
returns-in-Ok-None-clause-over g c = λ limit began log streamed.
    let missed = c.in-Ok-None.ensures.empty in
    let empty = rw c.in-Ok-None.field-0-is at missed in
    over_streamed limit began (g.S.Source.left c.get_ready.new.source) c.get_ready.new.self.buffer (λ bytes rest. HasRead c.get_ready.new.self.reader bytes rest log) (λ bytes. IsOnly bytes log) c.front.result.now c.front.ensures empty
    c.in_ok-get_ready.ensures.ready (c.in_ok-get_ready.ensures.streamed limit began log streamed)
    (λ bytes later holds has.
    let ends = c.in-Ok-None.ensures.end bytes later log holds has in
    let only = rw c.in-Ok-None.field-0-is at ends in
    only)

pub returns-in-Err-clause-end : goal.returns-in-Err-clause-end
returns-in-Err-clause-end g c = λ limit began log streamed.
    c.refused.ensures.end limit began
    (known_streamed limit began (g.S.Source.left c.get_ready.new.source) c.get_ready.new.self.buffer (λ bytes rest. HasRead c.get_ready.new.self.reader bytes rest log) (λ bytes rest. IsNoLog bytes c.in-Err.fault) c.front.result.now c.front.ensures
    c.in_ok-get_ready.ensures.ready (c.in_ok-get_ready.ensures.streamed limit began log streamed) (λ bytes later. c.in-Err.ensures.fault bytes later log))
