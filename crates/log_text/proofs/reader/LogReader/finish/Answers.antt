use Rattle.std.proofs.Common.{◌∙◌, sym}
use Rattle.log_grammar.specs.Begins.{Begins, BeginsWithNoPage}
use Rattle.log_grammar.specs.Spelling.{page, entries_of}
use Rattle.log_text.proofs.ReaderLemmas.{end_clean, end_open, end_formless, end_pages, some_is, none_is, no_bytes, some_bytes}
use Rattle.log_text.proofs.reader.LogReader.finish.Goals as goal

pub returns-then-some_is_open-clause-fault : goal.returns-then-some_is_open-clause-fault
returns-then-some_is_open-clause-fault c = λ bytes later log next has no_row.
    rw c.fault.ensures
    (end_open c.args.self.now bytes c.args.text.now later log next has (no_bytes c.args.text.now c.if-is_empty.ensures) (sym (c.some_is_open.ensures (entries_of log) has.by.keeps) ∙ c.if-some_is_open.true))

pub returns-else-some_is_open-clause-end : goal.returns-else-some_is_open-clause-end
returns-else-some_is_open-clause-end c = λ bytes later log next has.
    end_clean c.args.self.now bytes c.args.text.now later log next has (no_bytes c.args.text.now c.if-is_empty.ensures) (sym (c.some_is_open.ensures (entries_of log) has.by.keeps) ∙ c.if-some_is_open.false)

pub returns-else-some_is_open-clause-empty : goal.returns-else-some_is_open-clause-empty
returns-else-some_is_open-clause-empty c = no_bytes c.args.text.now c.if-is_empty.ensures

pub returns-then-is_some-clause-fault : goal.returns-then-is_some-clause-fault
returns-then-is_some-clause-fault c = λ bytes later log next has no_row.
    let found = some_is c.page_at.result (λ r. Begins c.args.text.now (page r.0) r.1.now) (sym c.if-is_some.ensures) c.page_at.ensures.found in
    rw c.fault-then-is_some.ensures (end_pages c.args.self.now bytes c.args.text.now later found.0.1.now log found.0.0 has found.1)

pub returns-else-is_some-clause-fault : goal.returns-else-is_some-clause-fault
returns-else-is_some-clause-fault c = λ bytes later log next has no_row.
    rw c.fault-else-is_some.ensures
    (end_formless c.args.self.now bytes c.args.text.now later log next has (some_bytes c.args.text.now c.if-is_empty.ensures) no_row
    (none_is c.page_at.result (BeginsWithNoPage c.args.text.now) (sym c.if-is_some.ensures) c.page_at.ensures.missed))
