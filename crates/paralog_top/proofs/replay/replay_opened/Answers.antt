use Rattle.std.proofs.Common.{◌≡◌, ◌∙◌, [], ap, subst}
use Rattle.std.proofs.lemmas.Result.{err_from_is_err_and}
use Rattle.pl_event.specs.Numbers.{events_of}
use Rattle.lifeguard.specs.Rules.{Rules}
use Rattle.lifeguard.specs.Shadow.{Represents}
use Rattle.log_text.specs.Reading.{HasRead}
use Rattle.log_text.specs.Streaming.{begun_log}
use Rattle.log_text.proofs.StreamLemmas.{taken_within}
use Rattle.paralog_top.specs.Results.{IsReplayUnder}
use Rattle.paralog_top.specs.inner.Playing.{IsPlayed, Play}
use Rattle.paralog_top.proofs.PlayLemmas.{begins, begun}
use Rattle.paralog_top.proofs.Refusals.{read_as, read_front}
use Rattle.paralog_top.proofs.replay.replay_opened.Goals as goal

pub returns-in_err-monitor-clause-end : goal.returns-in_err-monitor-clause-end
returns-in_err-monitor-clause-end g c = λ limit began streamed.
    let p = err_from_is_err_and c.from_residual.result c.from_residual.ensures.1 in
    let reader = c.args.opening.stream.reader in
    rw (p.1, p.2) (taken_within limit began (g.S.Source.left c.args.source.now) c.args.opening.stream.buffer
    (λ bytes rest. HasRead reader bytes rest (begun_log c.args.opening)) streamed)

pub returns-in_err-result_of-in-Ok-clause-end : goal.returns-in_err-result_of-in-Ok-clause-end
returns-in_err-result_of-in-Ok-clause-end g c = λ limit began streamed.
    let monitor = c.in_ok-monitor.monitor in
    let start : Play = λ pages events. Represents (g.L.Lifeguard.rules monitor.guard) pages events monitor.shadow in
    let first = begun g.L.Lifeguard.rules (λ r pages. Represents r pages [] monitor.shadow) c.args.guard monitor.guard
    c.args.opening.pages c.as_slice.result.now c.in_ok-monitor.ensures.guard c.as_slice.ensures
    c.in_ok-monitor.ensures.stands in
    let p = err_from_is_err_and c.from_residual-in_err-result_of-in-Ok.result
    c.from_residual-in_err-result_of-in-Ok.ensures.1 in
    let playing = begins monitor.harts limit began (g.S.Source.left c.args.source.now) start c.args.opening
    c.in_ok-monitor.ensures.harts first streamed in
    let was = c.in-Ok.ensures.ok limit began [] playing in
    rw (p.1, p.2) (read_front began (g.S.Source.left c.play_rows.new.source) was.bytes limit was.consumed was.few)

pub returns-in-Ok-clause-ok : goal.returns-in-Ok-clause-ok
returns-in-Ok-clause-ok g c = λ limit began streamed.
    let rules = g.L.Lifeguard.rules in
    let monitor = c.in_ok-monitor.monitor in
    let start : Play = λ pages events. Represents (g.L.Lifeguard.rules monitor.guard) pages events monitor.shadow in
    let first = begun g.L.Lifeguard.rules (λ r pages. Represents r pages [] monitor.shadow) c.args.guard monitor.guard
    c.args.opening.pages c.as_slice.result.now c.in_ok-monitor.ensures.guard c.as_slice.ensures
    c.in_ok-monitor.ensures.stands in
    let playing = begins monitor.harts limit began (g.S.Source.left c.args.source.now) start c.args.opening
    c.in_ok-monitor.ensures.harts first streamed in
    let after = c.play_rows.new.player in
    let same : rules after.guard ≡ rules c.args.guard =
    c.play_rows.ensures.rules ∙ ap rules c.in_ok-monitor.ensures.guard in
    let end : Play = λ pages events. Represents (rules after.guard) pages events after.shadow in
    let answer = c.in_ok-result_of-in-Ok.field-0 in
    read_as limit began (g.S.Source.left c.play_rows.new.source) (IsPlayed end after.harts)
    (λ bytes. IsReplayUnder (rules c.args.guard) bytes answer.text.items answer.verdict)
    (λ bytes played. record {
      log = played.log;
      read = played.only.text;
      result = c.in_ok-result_of-in-Ok.ensures played.log played.same
          (subst (λ (r : Rules). Represents r played.log.pages (events_of played.log.lines) after.shadow) same
          played.played);
    }) (c.in-Ok.ensures.ok limit began [] playing)

pub returns-clause-end : goal.returns-clause-end
returns-clause-end g c = λ limit began streamed.
    let monitor = c.in_ok-monitor.monitor in
    let start : Play = λ pages events. Represents (g.L.Lifeguard.rules monitor.guard) pages events monitor.shadow in
    let first = begun g.L.Lifeguard.rules (λ r pages. Represents r pages [] monitor.shadow) c.args.guard monitor.guard
    c.args.opening.pages c.as_slice.result.now c.in_ok-monitor.ensures.guard c.as_slice.ensures
    c.in_ok-monitor.ensures.stands in
    c.in-Err.ensures.end limit began [] (begins monitor.harts limit began (g.S.Source.left c.args.source.now) start
    c.args.opening c.in_ok-monitor.ensures.harts first streamed)
