use Rattle.std.proofs.Common.{map, string_bytes, refl, subst}
use Rattle.paralog_top.specs.Asked.{tells}
use Rattle.whence_top.specs.Statuses.{Says}
use Rattle.whence.proofs.ended.status_of.Goals as goal

pub returns-in-Ok : goal.returns-in-Ok
returns-in-Ok g c =
    let input = tells g.S.Source.left g.S.Source.faults c.args.source.now c.whence_top.new.source in
    let out = tells g.K.Sink.written g.K.Sink.faults c.args.out.now c.whence_top.new.out in
    let notes = tells g.E.Sink.written g.E.Sink.faults c.args.notes.now c.whence_top.new.notes in
    rw c.in-Ok.is
    (subst (λ words. Says (map string_bytes words) input out notes c.whence_top.result) c.deref.ensures.value
    c.whence_top.ensures.says)

pub returns-in-Err : goal.returns-in-Err
returns-in-Err g c =
    rw c.in-Err.is
    (record { status = refl; unread = (refl, refl); unwritten = (refl, refl); noted = c.note.ensures })
