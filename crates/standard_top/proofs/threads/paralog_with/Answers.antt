use Rattle.std.proofs.Common.{◌≡◌, List, map, string_bytes, subst}
use Rattle.paralog_top.specs.Asked.{asks, told}
use Rattle.paralog_top.specs.Commands.{IsNoCommand}
use Rattle.paralog_top.specs.Statuses.{IsComplete, IsGood, Says}
use Rattle.paralog_top.specs.declared.status.Status.TheVariants as status
use Rattle.replay_probes.specs.Meaning.{Meaning}
use Rattle.standard_top.proofs.threads.paralog_with.Goals as goal

pub returns-clause-says : goal.returns-clause-says
returns-clause-says g c =
    let input = told (g.S.Source.left c.args.source.now) (g.S.Source.left c.paralog.new.source) (g.S.Source.faults c.args.source.now) (g.S.Source.faults c.paralog.new.source) in
    let out = told (g.K.Sink.written c.args.out.now) (g.K.Sink.written c.paralog.new.out) (g.K.Sink.faults c.args.out.now) (g.K.Sink.faults c.paralog.new.out) in
    let notes = told (g.E.Sink.written c.args.notes.now) (g.E.Sink.written c.paralog.new.notes) (g.E.Sink.faults c.args.notes.now) (g.E.Sink.faults c.paralog.new.notes) in
    subst (λ (meanings : List Meaning). Says (asks meanings (map string_bytes c.args.words.now)) input out notes c.paralog.result) c.requires.standard c.paralog.ensures.says

pub returns-clause-usage : goal.returns-clause-usage
returns-clause-usage g c =
    subst (λ (meanings : List Meaning). IsNoCommand meanings (map string_bytes c.args.words.now) → c.paralog.result ≡ status.Usage) c.requires.standard c.paralog.ensures.usage

pub returns-clause-complete : goal.returns-clause-complete
returns-clause-complete g c =
    let input = told (g.S.Source.left c.args.source.now) (g.S.Source.left c.paralog.new.source) (g.S.Source.faults c.args.source.now) (g.S.Source.faults c.paralog.new.source) in
    let out = told (g.K.Sink.written c.args.out.now) (g.K.Sink.written c.paralog.new.out) (g.K.Sink.faults c.args.out.now) (g.K.Sink.faults c.paralog.new.out) in
    subst (λ (meanings : List Meaning). IsGood (asks meanings (map string_bytes c.args.words.now)) input out → IsComplete c.paralog.result) c.requires.standard c.paralog.ensures.complete
