use Rattle.std.proofs.Common.{inl, map, string_bytes, subst}
use Rattle.paralog_top.specs.Asked.{asks, told}
use Rattle.paralog_top.specs.Statuses.{Says}
use Rattle.standard_top.specs.Standard.{standard_meanings}
use Rattle.paralog.proofs.ended.status_of.Goals as goal

pub returns-in-Ok-standard_paralog : goal.returns-in-Ok-standard_paralog
returns-in-Ok-standard_paralog g c =
    let input = told (g.S.Source.left c.args.source.now) (g.S.Source.left c.standard_paralog.new.source) (g.S.Source.faults c.args.source.now) (g.S.Source.faults c.standard_paralog.new.source) in
    let out = told (g.K.Sink.written c.args.out.now) (g.K.Sink.written c.standard_paralog.new.out) (g.K.Sink.faults c.args.out.now) (g.K.Sink.faults c.standard_paralog.new.out) in
    let notes = told (g.E.Sink.written c.args.notes.now) (g.E.Sink.written c.standard_paralog.new.notes) (g.E.Sink.faults c.args.notes.now) (g.E.Sink.faults c.standard_paralog.new.notes) in
    rw c.in-Ok.is (inl (subst (λ words. Says (asks standard_meanings (map string_bytes words)) input out notes c.in-Ok-standard_paralog.status) c.deref.ensures.value c.in-Ok-standard_paralog.ensures.says))
