use Rattle.std.proofs.Common.{[]}
use Rattle.std.proofs.lemmas.Result.{err_from_is_err_and}
use Rattle.log_text.proofs.ReaderLemmas.{lined, next_last}
use Rattle.log_text.proofs.read.read_lines.Goals as goal

pub returns-in_err-row-clause-fault : goal.returns-in_err-row-clause-fault
returns-in_err-row-clause-fault c = λ bytes log few lines by.
    let p = err_from_is_err_and c.from_residual.result c.from_residual.ensures.1 in
    rw (p.1, p.2) (c.in_err-row.ensures.fault bytes [] (lined log c.lines.lines) (next_last bytes c.lines.rest.now few) (c.lines.invariant bytes log few lines by))

pub lines-preserved : goal.lines-preserved
lines-preserved c = λ bytes log few lines by.
    let read = c.in_ok-row.ensures.row bytes [] (lined log c.lines.lines) (next_last bytes c.lines.rest.now few) (c.lines.invariant bytes log few lines by) in
    let found = rw c.in-Some.is at read in
    rw (c.split_at.ensures.back, c.in_ok-push_to.ensures) found.read

pub returns-clause-ok : goal.returns-clause-ok
returns-clause-ok c = λ bytes log few lines by.
    let read = c.in_ok-row.ensures.end bytes [] (lined log c.lines.lines) (next_last bytes c.lines.rest.now few) (c.lines.invariant bytes log few lines by) in
    let none = rw c.in_default.is at read in
    none
