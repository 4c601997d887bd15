use Rattle.std.proofs.Common.{refl, sym}
use Rattle.log_grammar.specs.Spelling.{entries_of}
use Rattle.log_text.proofs.ReaderLemmas.{row_read, row_broken}
use Rattle.log_text.proofs.reader.LogReader.read_row.Goals as goal

pub returns-in-Some-take_row-clause-fault : goal.returns-in-Some-take_row-clause-fault
returns-in-Some-take_row-clause-fault c = λ bytes later log next has.
    rw c.fault.ensures
    (row_broken c.args.self.now bytes c.args.text.now later c.in-Some.rest.now log c.in-Some.what c.in-Some.has_arcs c.row_at.new.list c.in-Some-take_row.cause has c.in-Some.ensures.found
    (λ points shows. sym (c.in-Some-take_row.ensures.judged (entries_of log) points has.by.keeps shows)))

pub returns-clause-row : goal.returns-clause-row
returns-clause-row c = λ bytes later log next has.
    rw c.count_line.ensures
    (row_read c.args.self.now c.take_row.new.tally bytes c.args.text.now later c.in-Some.rest.now log c.in-Some.what c.in-Some.has_arcs c.row_at.new.list _ next has c.in-Some.ensures.found
    (λ points shows. sym (c.in_default-take_row.ensures.judged (entries_of log) points has.by.keeps shows)) c.take_row.ensures.harts (λ points none. c.in_default-take_row.ensures.keeps refl (entries_of log) points has.by.keeps none))
