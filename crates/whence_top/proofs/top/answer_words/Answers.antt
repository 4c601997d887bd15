use Rattle.std.proofs.Common.{◌≡◌, ◌≤◌, ◌∙◌, List, ℕ, ap, length, map, string_bytes, refl, sym, subst}
use Rattle.std.proofs.KnownBytes.{Keeps-refl}
use Rattle.paralog_top.specs.declared.status.Status.{Status}
use Rattle.pl_base.specs.declared.layout.TheConstants.{MAX_JOB_BYTES}
use Rattle.paralog_top.specs.declared.input.Input.TheVariants as kinds
use Rattle.paralog_top.specs.Asked.{tells}
use Rattle.paralog_top.specs.Refusals.{Reads}
use Rattle.paralog_top.proofs.Refusals.{end_refused}
use Rattle.whence_trail.specs.declared.trail.Pair.{Pair}
use Rattle.whence_top.specs.Ends.{Tells}
use Rattle.whence_top.specs.Statuses.{Says}
use Rattle.whence_top.proofs.Calls.{not_whole, read_whole}
use Rattle.whence_top.proofs.top.answer_words.Goals as goal

pub returns-in_default-clause-says : goal.returns-in_default-clause-says
returns-in_default-clause-says g c =
    (c.in_default.ensures, Keeps-refl (g.K.Sink.written c.args.out.now), refl, c.note.ensures)

pub returns-in-Ok-clause-says : goal.returns-in-Ok-clause-says
returns-in-Ok-clause-says g c =
    let words = map string_bytes c.args.words.now in
    let input = tells g.S.Source.left g.S.Source.faults c.args.source.now c.read_all.new.source in
    let out = tells g.K.Sink.written g.K.Sink.faults c.args.out.now c.tell.new.out in
    let notes = tells g.E.Sink.written g.E.Sink.faults c.args.notes.now c.tell.new.notes in
    let bytes = c.in-Ok.bytes.items in
    let long = ap (λ (b : List ℕ). length b) (sym c.deref.ensures.value) ∙ c.deref.ensures.len in
    let reads : Reads kinds.Job input (λ read. read ≡ bytes) = (
      record {
        bytes = bytes;
        consumed = c.in-Ok.ensures.read;
        end = c.in-Ok.ensures.end;
        few = subst (λ (n : ℕ). n ≤ MAX_JOB_BYTES) (sym long) c.in-Ok.ensures.within;
        holds = refl;
      },
      c.in-Ok.ensures.cause.quiet,
    ) in
    read_whole words input out notes c.in-Some.asked c.in-Some.ensures bytes reads c.tell.result
    (subst (λ (b : List ℕ). Tells c.in-Some.asked b out notes c.tell.result) c.deref.ensures.value
    (subst (λ (pairs : List Pair). Tells pairs c.deref.result.now out notes c.tell.result) c.pairs.ensures
    c.tell.ensures))

pub returns-in-Err-clause-says : goal.returns-in-Err-clause-says
returns-in-Err-clause-says g c =
    let words = map string_bytes c.args.words.now in
    let input = tells g.S.Source.left g.S.Source.faults c.args.source.now c.read_all.new.source in
    let out = tells g.K.Sink.written g.K.Sink.faults c.args.out.now c.args.out.now in
    let notes = tells g.E.Sink.written g.E.Sink.faults c.args.notes.now c.not_read.new.notes in
    subst (λ (s : Status). Says words input out notes s) (sym c.not_read.ensures.status)
    (not_whole words input out notes c.in-Some.asked c.in-Some.ensures c.in-Err.end
    (end_refused input c.in-Err.end c.in-Err.ensures.taken c.in-Err.ensures.cause)
    (Keeps-refl (g.K.Sink.written c.args.out.now)) refl c.not_read.ensures.noted)
