use Rattle.std.proofs.Common.{map, string_bytes}
use Rattle.paralog_top.specs.Asked.{asks, tells}
use Rattle.paralog_top.proofs.Complete.{complete}
use Rattle.paralog_top.proofs.threads.paralog.Goals as goal

pub returns-clause-complete : goal.returns-clause-complete
returns-clause-complete g c = λ good.
    let words = map string_bytes c.args.words.now in
    let asked = asks (map (λ b. (goal.Probe-dyn g (b.vtable, b.value)).meaning b.value) c.args.probes.items) words in
    let input = tells g.S.Source.left g.S.Source.faults c.args.source.now c.answer_apart.new.source in
    let out = tells g.K.Sink.written g.K.Sink.faults c.args.out.now c.answer_apart.new.out in
    let notes = tells g.E.Sink.written g.E.Sink.faults c.args.notes.now c.answer_apart.new.notes in
    complete asked input out notes good c.answer_apart.result c.answer_apart.ensures.says
