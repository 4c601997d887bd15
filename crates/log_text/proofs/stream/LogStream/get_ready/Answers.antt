use Rattle.std.proofs.Common.{sym, ◌∙◌}
use Rattle.log_text.specs.Reading.{IsReadBy, HasRead}
use Rattle.log_text.proofs.StreamLemmas.{filled, filled_ready, filled_ahead, stopped, on_ok, if_err, nothing_there}
use Rattle.log_text.proofs.stream.LogStream.get_ready.Goals as goal

pub returns-clause-ready : goal.returns-clause-ready
returns-clause-ready g c = on_ok c.fill.result (filled_ready (g.S.Source.left c.args.source.now) (g.S.Source.left c.fill.new.source) c.args.self.now.buffer c.fill.new.self) c.fill.ensures.ok

pub returns-clause-begun : goal.returns-clause-begun
returns-clause-begun g c = λ limit began log begun.
    on_ok c.fill.result
    (λ fills. filled limit began (g.S.Source.left c.args.source.now) (g.S.Source.left c.fill.new.source) c.args.self.now.buffer c.fill.new.self (λ bytes rest. IsReadBy c.args.self.now.reader bytes rest log)
    (nothing_there c.args.self.now.buffer.front c.front.result.now c.front.ensures c.if-not-is_empty.ensures) (sym c.is_ended.ensures ∙ c.if-is_ended.false) fills begun)
    c.fill.ensures.ok

pub returns-clause-streamed : goal.returns-clause-streamed
returns-clause-streamed g c = λ limit began log streamed.
    on_ok c.fill.result
    (λ fills. filled limit began (g.S.Source.left c.args.source.now) (g.S.Source.left c.fill.new.source) c.args.self.now.buffer c.fill.new.self (λ bytes rest. HasRead c.args.self.now.reader bytes rest log)
    (nothing_there c.args.self.now.buffer.front c.front.result.now c.front.ensures c.if-not-is_empty.ensures) (sym c.is_ended.ensures ∙ c.if-is_ended.false) fills streamed)
    c.fill.ensures.ok

pub returns-clause-same : goal.returns-clause-same
returns-clause-same g c =
    on_ok c.fill.result
    (filled_ahead (g.S.Source.left c.args.source.now) (g.S.Source.left c.fill.new.source) c.args.self.now.buffer c.fill.new.self
    (nothing_there c.args.self.now.buffer.front c.front.result.now c.front.ensures c.if-not-is_empty.ensures))
    c.fill.ensures.ok

pub returns-clause-not_begun : goal.returns-clause-not_begun
returns-clause-not_begun g c = λ limit began log begun.
    if_err c.fill.result (λ end takes. stopped limit began (g.S.Source.left c.args.source.now) (g.S.Source.left c.fill.new.source) c.args.self.now.buffer (λ bytes rest. IsReadBy c.args.self.now.reader bytes rest log) end begun takes) c.fill.ensures.taken

pub returns-clause-not_streamed : goal.returns-clause-not_streamed
returns-clause-not_streamed g c = λ limit began log streamed.
    if_err c.fill.result (λ end takes. stopped limit began (g.S.Source.left c.args.source.now) (g.S.Source.left c.fill.new.source) c.args.self.now.buffer (λ bytes rest. HasRead c.args.self.now.reader bytes rest log) end streamed takes) c.fill.ensures.taken
