use Rattle.std.proofs.Common.{◌≡◌, ◌∙◌, [], ap, map, subst}
use Rattle.std.proofs.lemmas.Result.{err_from_is_err_and}
use Rattle.pl_event.specs.Numbers.{events_of}
use Rattle.lifeguard.specs.Rules.{Rules}
use Rattle.log_text.specs.Reading.{HasRead}
use Rattle.log_text.specs.Streaming.{begun_log}
use Rattle.log_text.proofs.StreamLemmas.{taken_within}
use Rattle.paralog_top.specs.Results.{IsProbedUnder}
use Rattle.paralog_top.specs.inner.Playing.{HasWatched, IsPlayed}
use Rattle.paralog_top.proofs.PlayLemmas.{begins, begun}
use Rattle.paralog_top.proofs.Refusals.{read_as, read_front}
use Rattle.paralog_top.proofs.probe.probe_opened.Goals as goal

pub returns-in_err-replayer-clause-end : goal.returns-in_err-replayer-clause-end
returns-in_err-replayer-clause-end g c = λ limit began streamed.
    let p = err_from_is_err_and c.from_residual.result c.from_residual.ensures.1 in
    let reader = c.args.opening.stream.reader in
    rw (p.1, p.2) (taken_within limit began (g.S.Source.left c.args.source.now) c.args.opening.stream.buffer
    (λ bytes rest. HasRead reader bytes rest (begun_log c.args.opening)) streamed)

pub returns-in_err-told_lines-in-Ok-clause-end : goal.returns-in_err-told_lines-in-Ok-clause-end
returns-in_err-told_lines-in-Ok-clause-end g c = λ limit began streamed.
    let probe = g.B.Probe in
    let rules = g.L.Lifeguard.rules in
    let replayer = c.in_ok-replayer.replayer in
    let monitor = replayer.monitor in
    let meanings = map probe.meaning c.args.probes.items in
    let watched = λ (r : Rules). HasWatched probe.meaning probe.has_seen r monitor.shadow replayer.audience meanings in
    let first = begun rules (λ r pages. watched r pages []) c.args.guard monitor.guard c.args.opening.pages
    c.as_slice.result.now c.in_ok-replayer.ensures.guard c.as_slice.ensures c.in_ok-replayer.ensures.plays in
    let p = err_from_is_err_and c.from_residual-in_err-told_lines-in-Ok.result
    c.from_residual-in_err-told_lines-in-Ok.ensures.1 in
    let playing = begins monitor.harts limit began (g.S.Source.left c.args.source.now) (watched (rules monitor.guard))
    c.args.opening c.in_ok-replayer.ensures.harts first streamed in
    let was = c.in-Ok.ensures.ok limit began meanings playing in
    rw (p.1, p.2) (read_front began (g.S.Source.left c.play_rows.new.source) was.bytes limit was.consumed was.few)

pub returns-in-Ok-clause-ok : goal.returns-in-Ok-clause-ok
returns-in-Ok-clause-ok g c = λ limit began streamed.
    let probe = g.B.Probe in
    let rules = g.L.Lifeguard.rules in
    let replayer = c.in_ok-replayer.replayer in
    let monitor = replayer.monitor in
    let meanings = map probe.meaning c.args.probes.items in
    let watched = λ (r : Rules). HasWatched probe.meaning probe.has_seen r monitor.shadow replayer.audience meanings in
    let first = begun rules (λ r pages. watched r pages []) c.args.guard monitor.guard c.args.opening.pages
    c.as_slice.result.now c.in_ok-replayer.ensures.guard c.as_slice.ensures c.in_ok-replayer.ensures.plays in
    let playing = begins monitor.harts limit began (g.S.Source.left c.args.source.now) (watched (rules monitor.guard))
    c.args.opening c.in_ok-replayer.ensures.harts first streamed in
    let after = c.play_rows.new.player in
    let same : rules after.monitor.guard ≡ rules c.args.guard =
    c.play_rows.ensures.rules ∙ ap rules c.in_ok-replayer.ensures.guard in
    let end = λ (r : Rules). HasWatched probe.meaning probe.has_seen r after.monitor.shadow after.audience meanings in
    let answer = c.in_ok-told_lines-in-Ok.field-0 in
    read_as limit began (g.S.Source.left c.play_rows.new.source)
    (IsPlayed (end (rules after.monitor.guard)) after.monitor.harts)
    (λ bytes. IsProbedUnder (rules c.args.guard) meanings c.args.places.now bytes answer.text.items answer.verdict)
    (λ bytes played. c.in_ok-told_lines-in-Ok.ensures meanings bytes (record {
      log = played.log;
      same = played.same;
      only = played.only;
      played = subst (λ (r : Rules). end r played.log.pages (events_of played.log.lines)) same played.played;
    })) (c.in-Ok.ensures.ok limit began meanings playing)

pub returns-clause-end : goal.returns-clause-end
returns-clause-end g c = λ limit began streamed.
    let probe = g.B.Probe in
    let rules = g.L.Lifeguard.rules in
    let replayer = c.in_ok-replayer.replayer in
    let monitor = replayer.monitor in
    let meanings = map probe.meaning c.args.probes.items in
    let watched = λ (r : Rules). HasWatched probe.meaning probe.has_seen r monitor.shadow replayer.audience meanings in
    let first = begun rules (λ r pages. watched r pages []) c.args.guard monitor.guard c.args.opening.pages
    c.as_slice.result.now c.in_ok-replayer.ensures.guard c.as_slice.ensures c.in_ok-replayer.ensures.plays in
    c.in-Err.ensures.end limit began meanings (begins monitor.harts limit began (g.S.Source.left c.args.source.now)
    (watched (rules monitor.guard)) c.args.opening c.in_ok-replayer.ensures.harts first streamed)
