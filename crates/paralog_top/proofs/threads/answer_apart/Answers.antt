use Rattle.std.proofs.Common.{map, string_bytes, refl, subst}
use Rattle.std.proofs.KnownBytes.{Keeps-refl}
use Rattle.paralog_top.specs.Asked.{asks, tells}
use Rattle.paralog_top.specs.Commands.{IsAllowed, IsCommand, IsNoCommand}
use Rattle.paralog_top.proofs.Calls.{delivered, refused}
use Rattle.paralog_top.proofs.threads.answer_apart.Goals as goal

pub answer_on-requires-clause-allowed : goal.answer_on-requires-clause-allowed
answer_on-requires-clause-allowed g c = λ lives within.
    subst (λ ps. IsAllowed (map (λ b. (goal.Probe-dyn g (b.vtable, b.value)).meaning b.value) ps) c.in-Some.command)
    c.deref.ensures.value c.in-Some.ensures.1

pub returns-in_default-clause-says : goal.returns-in_default-clause-says
returns-in_default-clause-says g c =
    let words = map string_bytes c.args.words.now in (
      subst (λ ps. IsNoCommand (map (λ b. (goal.Probe-dyn g (b.vtable, b.value)).meaning b.value) ps) words)
          c.deref.ensures.value c.in_default.ensures,
      Keeps-refl (g.K.Sink.written c.args.out.now),
      c.note.ensures,
    )

pub returns-in-Ok-clause-says : goal.returns-in-Ok-clause-says
returns-in-Ok-clause-says g c =
    let words = map string_bytes c.args.words.now in
    let asked = asks (map (λ b. (goal.Probe-dyn g (b.vtable, b.value)).meaning b.value) c.args.probes.items) words in
    let input = tells g.S.Source.left g.S.Source.faults c.args.source.now c.answer_on.new.source in
    let out = tells g.K.Sink.written g.K.Sink.faults c.args.out.now c.deliver.new.out in
    let notes = tells g.E.Sink.written g.E.Sink.faults c.args.notes.now c.deliver.new.notes in
    let command = c.in-Some.command in
    let is : IsCommand asked.meanings words command =
    subst (λ ps. IsCommand (map (λ b. (goal.Probe-dyn g (b.vtable, b.value)).meaning b.value) ps) words command)
    c.deref.ensures.value c.in-Some.ensures in
    delivered asked input out notes command is c.in-Ok.answer c.deliver.result c.in-Ok.ensures.ok c.deliver.ensures

pub returns-in-Ok-clause-usage : goal.returns-in-Ok-clause-usage
returns-in-Ok-clause-usage g c = λ none.
    let words = map string_bytes c.args.words.now in
    let command = c.in-Some.command in
    absurd (none command
    (subst (λ ps. IsCommand (map (λ b. (goal.Probe-dyn g (b.vtable, b.value)).meaning b.value) ps) words command)
    c.deref.ensures.value c.in-Some.ensures))

pub returns-in-Err-clause-usage : goal.returns-in-Err-clause-usage
returns-in-Err-clause-usage g c = λ none.
    let words = map string_bytes c.args.words.now in
    let command = c.in-Some.command in
    absurd (none command
    (subst (λ ps. IsCommand (map (λ b. (goal.Probe-dyn g (b.vtable, b.value)).meaning b.value) ps) words command)
    c.deref.ensures.value c.in-Some.ensures))

pub returns-in-Err-clause-says : goal.returns-in-Err-clause-says
returns-in-Err-clause-says g c =
    let words = map string_bytes c.args.words.now in
    let asked = asks (map (λ b. (goal.Probe-dyn g (b.vtable, b.value)).meaning b.value) c.args.probes.items) words in
    let input = tells g.S.Source.left g.S.Source.faults c.args.source.now c.answer_on.new.source in
    let out = tells g.K.Sink.written g.K.Sink.faults c.args.out.now c.args.out.now in
    let notes = tells g.E.Sink.written g.E.Sink.faults c.args.notes.now c.refuse.new.notes in
    let command = c.in-Some.command in
    let is : IsCommand asked.meanings words command =
    subst (λ ps. IsCommand (map (λ b. (goal.Probe-dyn g (b.vtable, b.value)).meaning b.value) ps) words command)
    c.deref.ensures.value c.in-Some.ensures in
    refused asked input out notes command is c.in-Err.refusal c.refuse.result c.in-Err.ensures.err
    (Keeps-refl (g.K.Sink.written c.args.out.now)) refl c.refuse.ensures
