use Rattle.std.proofs.Common.{◌∙◌, subst}
use Rattle.paralog_top.specs.Asked.{tells}
use Rattle.paralog_top.specs.Notes.{IsNoted}
use Rattle.whence_top.proofs.ends.refuse.Goals as goal

pub returns-in-Ok : goal.returns-in-Ok
returns-in-Ok g c =
    subst (IsNoted (tells g.E.Sink.written g.E.Sink.faults c.args.notes.now c.note.new.notes))
    (c.as_bytes.ensures.value ∙ c.in-Ok.ensures) c.note.ensures
