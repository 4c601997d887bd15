use Rattle.std.proofs.Common.{refl}
use Rattle.std.proofs.lemmas.Result.{err_from_is_err_and}
use Rattle.pl_event.specs.Numbers.{events_of}
use Rattle.log_text.specs.Reading.{HasRead, with_line, line_of}
use Rattle.log_text.proofs.StreamLemmas.{taken_within}
use Rattle.run_record.proofs.Upgrading.{may_take, row_taken, upgraded_whole}
use Rattle.run_record.proofs.upgrade.upgrade_line.Goals as goal

pub take-requires : goal.take-requires
take-requires g c =
    let limit = c.requires.0 in
    let began = c.requires.1 in
    let u = c.requires.2 in
    let found = c.in-Ok-Some.ensures.row limit began u.log u.streamed in
    let reads = rw c.in-Ok-Some.field-0-is at found in
    (u.log, may_take limit began (g.S.Source.left c.next.new.source) c.next.new.self u.log c.in-Ok-Some.row c.args.upgrade.now reads u.upgraded)

pub returns-in_err-take-in-Ok-Some-clause-end : goal.returns-in_err-take-in-Ok-Some-clause-end
returns-in_err-take-in-Ok-Some-clause-end g c = λ limit began u.
    let p = err_from_is_err_and c.from_residual.result c.from_residual.ensures.1 in
    let found = c.in-Ok-Some.ensures.row limit began u.log u.streamed in
    let reads = rw c.in-Ok-Some.field-0-is at found in
    let reader = c.next.new.self.reader in
    rw (p.1, p.2) (taken_within limit began (g.S.Source.left c.next.new.source) c.next.new.self.buffer (λ bytes rest. HasRead reader bytes rest (with_line u.log (line_of reader c.in-Ok-Some.row))) reads.read)

pub returns-in_ok-take-in-Ok-Some-clause-more : goal.returns-in_ok-take-in-Ok-Some-clause-more
returns-in_ok-take-in-Ok-Some-clause-more g c = λ limit began u _.
    let now = g.S.Source.left c.next.new.source in
    let found = c.in-Ok-Some.ensures.row limit began u.log u.streamed in
    let reads = rw c.in-Ok-Some.field-0-is at found in
    let row = c.in-Ok-Some.row in
    let may = may_take limit began now c.next.new.self u.log row c.args.upgrade.now reads u.upgraded in
    row_taken limit began now c.next.new.self u.log row c.take.new.self reads (c.in_ok-take-in-Ok-Some.ensures u.log (line_of c.next.new.self.reader row) refl may)

pub returns-in-Ok-None-clause-over : goal.returns-in-Ok-None-clause-over
returns-in-Ok-None-clause-over g c = λ limit began u _.
    let missed = c.in-Ok-None.ensures.over limit began u.log u.streamed in
    let was = rw c.in-Ok-None.field-0-is at missed in
    let recorder = c.args.upgrade.now.recorder in
    upgraded_whole limit began (g.S.Source.left c.next.new.source) u.log c.args.upgrade.now u.upgraded
    (c.recorder_lines.ensures.lines recorder.placer recorder.marker 4 (events_of u.log.lines) u.upgraded.lines u.upgraded.has) was

pub returns-in-Err-clause-end : goal.returns-in-Err-clause-end
returns-in-Err-clause-end g c = λ limit began u. c.in-Err.ensures.end limit began u.log u.streamed
