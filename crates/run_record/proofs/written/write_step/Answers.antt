use Rattle.std.proofs.Common.{◌≡◌, ◌∙◌, sym, ap, subst}
use Rattle.std.specs.Prelude.{All, length, List}
use Rattle.pl_event.specs.declared.log.Line.{Line}
use Rattle.pl_event.specs.declared.log.Log.{Log}
use Rattle.log_grammar.specs.Spelling.{log_spelling}
use Rattle.std.specs.Prelude.{string_bytes}
use Rattle.run_record.specs.Writing.{with_lines}
use Rattle.run_record.proofs.Writing.{all_eight, written_more, written_whole}
use Rattle.run_record.proofs.written.write_step.Goals as goal

pub add_lines-requires : goal.add_lines-requires
add_lines-requires c =
    let job = c.args.job.now in
    let more = c.next.new.lines.items in
    let next = c.in-Ok-true.ensures.more job c.requires.lines c.requires.running (cc) in
    subst (λ (lines : List Line). All (λ line. length line.arcs ≡ 8) lines) (sym c.deref.ensures.value) (all_eight job c.requires.lines more c.next.new.self next)

pub returns-in_ok-add_lines-in-Ok-true-clause-more : goal.returns-in_ok-add_lines-in-Ok-true-clause-more
returns-in_ok-add_lines-in-Ok-true-clause-more c = λ ok.
    let job = c.args.job.now in
    let more = c.next.new.lines.items in
    let next = c.in-Ok-true.ensures.more job c.requires.lines c.requires.running (cc) in
    written_more job c.args.recording.now c.next.new.self (string_bytes c.args.text.now) (string_bytes c.add_lines.new.text) more c.requires next
    (λ (log : Log) before. c.in_ok-add_lines-in-Ok-true.ensures log before ∙ ap (λ (lines : List Line). log_spelling (with_lines log lines)) c.deref.ensures.value)

pub returns-in_ok-add_lines-in-Ok-true-clause-within : goal.returns-in_ok-add_lines-in-Ok-true-clause-within
returns-in_ok-add_lines-in-Ok-true-clause-within c = λ ok. c.in-Ok-true.ensures.within c.args.job.now c.requires.lines c.requires.running (cc)

pub returns-in-Ok-false-clause-whole : goal.returns-in-Ok-false-clause-whole
returns-in-Ok-false-clause-whole c = λ ok.
    written_whole c.args.job.now c.args.recording.now c.next.new.self (string_bytes c.args.text.now) c.requires (c.in-Ok-false.ensures.whole c.args.job.now c.requires.lines c.requires.running (cc))
