use Rattle.std.proofs.Common.{◌≡◌, List, map, string_bytes, subst}
use Rattle.paralog_top.specs.Asked.{asks, told}
use Rattle.paralog_top.specs.Commands.{IsNoCommand}
use Rattle.paralog_top.specs.Statuses.{IsComplete, IsGood, Says}
use Rattle.paralog_top.specs.declared.status.Status.TheVariants as status
use Rattle.replay_probes.specs.Meaning.{Meaning}
use Rattle.standard_top.proofs.top.top_with.Goals as goal

pub returns-clause-says : goal.returns-clause-says
returns-clause-says g c =
    let input = told (g.S.Source.left c.args.source.now) (g.S.Source.left c.plain_top.new.source) (g.S.Source.faults c.args.source.now) (g.S.Source.faults c.plain_top.new.source) in
    let out = told (g.K.Sink.written c.args.out.now) (g.K.Sink.written c.plain_top.new.out) (g.K.Sink.faults c.args.out.now) (g.K.Sink.faults c.plain_top.new.out) in
    let notes = told (g.E.Sink.written c.args.notes.now) (g.E.Sink.written c.plain_top.new.notes) (g.E.Sink.faults c.args.notes.now) (g.E.Sink.faults c.plain_top.new.notes) in
    subst (λ (meanings : List Meaning). Says (asks meanings (map string_bytes c.args.words.now)) input out notes c.plain_top.result) c.requires.standard c.plain_top.ensures.says

pub returns-clause-usage : goal.returns-clause-usage
returns-clause-usage g c =
    subst (λ (meanings : List Meaning). IsNoCommand meanings (map string_bytes c.args.words.now) → c.plain_top.result ≡ status.Usage) c.requires.standard c.plain_top.ensures.usage

pub returns-clause-complete : goal.returns-clause-complete
returns-clause-complete g c =
    let input = told (g.S.Source.left c.args.source.now) (g.S.Source.left c.plain_top.new.source) (g.S.Source.faults c.args.source.now) (g.S.Source.faults c.plain_top.new.source) in
    let out = told (g.K.Sink.written c.args.out.now) (g.K.Sink.written c.plain_top.new.out) (g.K.Sink.faults c.args.out.now) (g.K.Sink.faults c.plain_top.new.out) in
    subst (λ (meanings : List Meaning). IsGood (asks meanings (map string_bytes c.args.words.now)) input out → IsComplete c.plain_top.result) c.requires.standard c.plain_top.ensures.complete
