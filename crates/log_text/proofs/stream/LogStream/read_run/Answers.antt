use Rattle.std.proofs.Common.{[], ◌∷◌, ◌++◌, List, sym, ap, subst, ◌∙◌}
use Rattle.std.proofs.lemmas.Result.{err_from_is_err_and}
use Rattle.pl_event.specs.declared.log.Log.{Log}
use Rattle.pl_event.specs.declared.log.PageRun.{PageRun}
use Rattle.log_text.specs.Reading.{IsReadBy, HasRead, IsNoLog, with_pages}
use Rattle.log_text.specs.Streaming.{Streams}
use Rattle.log_text.proofs.ReaderLemmas.{paged, same_pages}
use Rattle.log_text.proofs.StreamLemmas.{behind_line, line_streamed, known_streamed, taken_within}
use Rattle.log_text.proofs.stream.LogStream.read_run.Goals as goal

pub returns-in_err-get_ready-clause-end : goal.returns-in_err-get_ready-clause-end
returns-in_err-get_ready-clause-end g c = λ limit began log bare same begun.
    let p = err_from_is_err_and c.from_residual.result c.from_residual.ensures.1 in
    rw (p.1, p.2) (c.in_err-get_ready.ensures.not_begun limit began log begun)

pub returns-in_err-push-in-Ok-Some-clause-end : goal.returns-in_err-push-in-Ok-Some-clause-end
returns-in_err-push-in-Ok-Some-clause-end g c = λ limit began log bare same begun.
    let p = err_from_is_err_and c.from_residual-in_err-push-in-Ok-Some.result c.from_residual-in_err-push-in-Ok-Some.ensures.1 in
    rw (p.1, p.2)
    (taken_within limit began (g.S.Source.left c.get_ready.new.source) c.get_ready.new.self.buffer (λ bytes rest. IsReadBy c.get_ready.new.self.reader bytes rest log) (c.in_ok-get_ready.ensures.begun limit began log begun))

pub returns-in_ok-push-in-Ok-Some-clause-more : goal.returns-in_ok-push-in-Ok-Some-clause-more
returns-in_ok-push-in-Ok-Some-clause-more g c = λ limit began log bare same begun _.
    let now = g.S.Source.left c.get_ready.new.source in
    let window = c.get_ready.new.self.buffer in
    let line = line_streamed limit began now window (λ bytes rest. IsReadBy c.get_ready.new.self.reader bytes rest log) (λ bytes rest. IsReadBy c.next_pages.new.self bytes rest (with_pages log c.in-Ok-Some.field-0-0.run)) c.front.result.now c.in-Ok-Some.field-0-0.len
    c.front.ensures c.in_ok-get_ready.ensures.ready (c.in_ok-get_ready.ensures.begun limit began log begun)
    (λ bytes later holds by.
    let found = c.in-Ok-Some.ensures.found bytes later log bare holds by in
    let there = rw c.in-Ok-Some.field-0-is at found in
    there) in
    rw c.pass.ensures
    (subst (λ (ps : List PageRun). Streams limit began now (behind_line window c.in-Ok-Some.field-0-0.len) (λ bytes rest. IsReadBy c.next_pages.new.self bytes rest (paged log ps)))
    (ap (λ (ps : List PageRun). ps ++ c.in-Ok-Some.field-0-0.run ∷ []) same ∙ sym c.in_ok-push-in-Ok-Some.ensures.ok) line)

pub returns-in-Ok-None-clause-over : goal.returns-in-Ok-None-clause-over
returns-in-Ok-None-clause-over g c = λ limit began log bare same begun _.
    let now = g.S.Source.left c.get_ready.new.source in
    let window = c.get_ready.new.self.buffer in
    let over = known_streamed limit began now window (λ bytes rest. IsReadBy c.get_ready.new.self.reader bytes rest log) (λ bytes rest. HasRead c.next_pages.new.self bytes rest log) c.front.result.now c.front.ensures
    c.in_ok-get_ready.ensures.ready (c.in_ok-get_ready.ensures.begun limit began log begun)
    (λ bytes later holds by.
    let missed = c.in-Ok-None.ensures.missed bytes later log holds by in
    let there = rw c.in-Ok-None.field-0-is at missed in
    there) in
    subst (λ (l : Log). Streams limit began now window (λ bytes rest. HasRead c.next_pages.new.self bytes rest l)) (same_pages log c.args.pages.now same) over

pub returns-in-Err-clause-end : goal.returns-in-Err-clause-end
returns-in-Err-clause-end g c = λ limit began log bare same begun.
    c.refused.ensures.end limit began
    (known_streamed limit began (g.S.Source.left c.get_ready.new.source) c.get_ready.new.self.buffer (λ bytes rest. IsReadBy c.get_ready.new.self.reader bytes rest log) (λ bytes rest. IsNoLog bytes c.in-Err.fault) c.front.result.now c.front.ensures
    c.in_ok-get_ready.ensures.ready (c.in_ok-get_ready.ensures.begun limit began log begun) (λ bytes later. c.in-Err.ensures.fault bytes later log))
