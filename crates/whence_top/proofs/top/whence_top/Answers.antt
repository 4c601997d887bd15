use Rattle.std.proofs.Common.{map, string_bytes}
use Rattle.paralog_top.specs.Asked.{tells}
use Rattle.whence_top.proofs.Calls.{complete}
use Rattle.whence_top.proofs.top.whence_top.Goals as goal

pub returns-clause-complete : goal.returns-clause-complete
returns-clause-complete g c = λ good.
    let words = map string_bytes c.args.words.now in
    let input = tells g.S.Source.left g.S.Source.faults c.args.source.now c.answer_words.new.source in
    let out = tells g.K.Sink.written g.K.Sink.faults c.args.out.now c.answer_words.new.out in
    let notes = tells g.E.Sink.written g.E.Sink.faults c.args.notes.now c.answer_words.new.notes in
    complete words input out notes good c.answer_words.result c.answer_words.ensures.says
