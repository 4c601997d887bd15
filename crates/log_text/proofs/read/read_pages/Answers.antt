use Rattle.std.proofs.Common.{[]}
use Rattle.std.proofs.lemmas.Result.{err_from_is_err_and}
use Rattle.log_text.proofs.ReaderLemmas.{paged, next_last}
use Rattle.log_text.proofs.read.read_pages.Goals as goal

pub returns-in_err-found-clause-fault : goal.returns-in_err-found-clause-fault
returns-in_err-found-clause-fault c = λ bytes log few bare pages by.
    let p = err_from_is_err_and c.from_residual.result c.from_residual.ensures.1 in
    rw (p.1, p.2) (c.in_err-found.ensures.fault bytes [] (paged log c.pages.pages) (next_last bytes c.pages.rest.now few) (c.pages.invariant bytes log few bare pages by))

pub pages-preserved : goal.pages-preserved
pages-preserved c = λ bytes log few bare pages by.
    let read = c.in_ok-found.ensures.found bytes [] (paged log c.pages.pages) bare (next_last bytes c.pages.rest.now few) (c.pages.invariant bytes log few bare pages by) in
    let found = rw c.in-Some.is at read in
    rw (c.split_at.ensures.back, c.in_ok-push.ensures.ok) found

pub returns-clause-ok : goal.returns-clause-ok
returns-clause-ok c = λ bytes log few bare pages by.
    let read = c.in_ok-found.ensures.missed bytes [] (paged log c.pages.pages) (next_last bytes c.pages.rest.now few) (c.pages.invariant bytes log few bare pages by) in
    let none = rw c.in_default.is at read in
    none
