use Rattle.std.proofs.Common.{◌∙◌, subst}
use Rattle.paralog_top.specs.Asked.{tells}
use Rattle.paralog_top.specs.Notes.{IsNoted}
use Rattle.paralog_top.proofs.ends.refuse.Goals as goal

pub returns-in-Ok : goal.returns-in-Ok
returns-in-Ok g c = (
  c.in-BadJob.fault,
  c.in-BadJob.is,
  subst (IsNoted (tells g.E.Sink.written g.E.Sink.faults c.args.notes.now c.note.new.notes))
      (c.as_bytes.ensures.value ∙ c.in-Ok.ensures) c.note.ensures,
)

pub returns-in-Ok-log_line : goal.returns-in-Ok-log_line
returns-in-Ok-log_line g c =
    let after = c.note-in-Ok-log_line.new.notes in (
      c.in-BadLog.fault,
      c.in-BadLog.is,
      subst (IsNoted (tells g.E.Sink.written g.E.Sink.faults c.args.notes.now after))
          (c.as_bytes-in-Ok-log_line.ensures.value ∙ c.in-Ok-log_line.ensures) c.note-in-Ok-log_line.ensures,
    )
