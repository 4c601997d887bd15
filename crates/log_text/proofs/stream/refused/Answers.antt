use Rattle.std.proofs.Common.{ap, sym, ◌∙◌}
use Rattle.log_text.specs.Reading.{IsNoLog}
use Rattle.log_text.proofs.StreamLemmas.{rest_skipped, stopped, was_read}
use Rattle.log_text.proofs.stream.refused.Goals as goal

pub returns-then-is_ended-clause-end : goal.returns-then-is_ended-clause-end
returns-then-is_ended-clause-end g c = λ limit began streams.
    was_read limit began (g.S.Source.left c.args.source.now) c.args.buffer.now (λ bytes. IsNoLog bytes c.args.fault) streams (sym c.is_ended.ensures ∙ c.if-is_ended.true)

pub returns-in-Ok-clause-end : goal.returns-in-Ok-clause-end
returns-in-Ok-clause-end g c = λ limit began streams.
    rest_skipped limit began (g.S.Source.left c.args.source.now) (g.S.Source.left c.skip_rest.new.source) c.args.buffer.now (λ bytes. IsNoLog bytes c.args.fault) streams
    (λ over. ap g.S.Source.left (c.skip_rest.ensures.kept over)) (c.in-Ok.ensures.ok (λ over. (streams.ended over).1))

pub returns-in-Err-clause-end : goal.returns-in-Err-clause-end
returns-in-Err-clause-end g c = λ limit began streams.
    stopped limit began (g.S.Source.left c.args.source.now) (g.S.Source.left c.skip_rest.new.source) c.args.buffer.now (λ bytes rest. IsNoLog bytes c.args.fault) c.in-Err.end streams c.in-Err.ensures.taken
