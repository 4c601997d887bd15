use Rattle.std.proofs.Common.{◌∙◌, subst}
use Rattle.std.specs.Io.KnownBytes.{Appends}
use Rattle.paralog_top.specs.Asked.{tells}
use Rattle.paralog_top.specs.Notes.{IsNoted}
use Rattle.paralog_top.proofs.ends.deliver_pair.Goals as goal

pub returns-in-Ok-write_all_counted : goal.returns-in-Ok-write_all_counted
returns-in-Ok-write_all_counted g c =
    let notes = tells g.E.Sink.written g.E.Sink.faults c.args.notes.now c.note.new.notes in
    let written = Appends (g.K.Sink.written c.args.out.now) (g.K.Sink.written c.write_all_counted.new.sink) in (
      c.args.earlier,
      c.args.later,
      (
        c.requires,
        (
          subst written c.deref.ensures.value c.in-Ok-write_all_counted.ensures.ok,
          c.in-Ok-write_all_counted.ensures.quiet,
        ),
        subst (IsNoted notes) (c.as_bytes.ensures.value ∙ c.in-Ok.ensures) c.note.ensures,
      ),
    )
