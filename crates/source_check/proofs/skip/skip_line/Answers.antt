use Rattle.log_text.specs.Reading.{line_of}
use Rattle.source_check.proofs.skip.skip_line.Goals as goal

pub returns-in-Ok-Some-clause-more : goal.returns-in-Ok-Some-clause-more
returns-in-Ok-Some-clause-more g c = λ limit began log streamed _.
    let found = c.in-Ok-Some.ensures.row limit began log streamed in
    let reads = rw c.in-Ok-Some.field-0-is at found in
    (line_of c.next.new.self.reader c.in-Ok-Some.field-0-0, reads.read)

pub returns-in-Ok-None-clause-over : goal.returns-in-Ok-None-clause-over
returns-in-Ok-None-clause-over g c = λ limit began log streamed _.
    let missed = c.in-Ok-None.ensures.over limit began log streamed in
    rw c.in-Ok-None.field-0-is at missed
