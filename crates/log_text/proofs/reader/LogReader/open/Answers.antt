use Rattle.log_text.proofs.ReaderLemmas.{by_header, no_header}
use Rattle.log_text.proofs.reader.LogReader.open.Goals as goal

pub returns-in_default-clause-fault : goal.returns-in_default-clause-fault
returns-in_default-clause-fault c = λ later holds. no_header c.args.text.now later holds c.in_default.ensures.missed

pub returns-clause-ok : goal.returns-clause-ok
returns-clause-ok c = λ later holds.
    by_header c.args.text.now later c.in-Some.rest.now c.in-Some.harts c.in-Some.block c.in_ok-new.field-0 c.new-2.result c.in-Some.ensures.found c.in_ok-new.ensures.0 c.in_ok-new.ensures.1
