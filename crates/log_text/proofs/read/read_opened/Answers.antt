use Rattle.std.proofs.Common.{refl, sym}
use Rattle.std.proofs.lemmas.Result.{err_from_is_err_and}
use Rattle.log_text.specs.Reading.{opened}
use Rattle.log_text.proofs.ReaderLemmas.{paged}
use Rattle.log_text.proofs.read.read_opened.Goals as goal

pub returns-in_err-rest-clause-fault : goal.returns-in_err-rest-clause-fault
returns-in_err-rest-clause-fault c =
    let p = err_from_is_err_and c.from_residual.result c.from_residual.ensures.1 in
    rw (p.1, p.2) (c.in_err-rest.ensures.fault c.args.bytes.now (opened c.args.header) c.requires.few refl (sym c.new-pages.ensures) (rw c.split_at.ensures.back c.requires.read))

pub returns-in_err-read_lines-clause-fault : goal.returns-in_err-read_lines-clause-fault
returns-in_err-read_lines-clause-fault c =
    let p = err_from_is_err_and c.from_residual-in_err-read_lines.result c.from_residual-in_err-read_lines.ensures.1 in
    let has = c.in_ok-rest.ensures.ok c.args.bytes.now (opened c.args.header) c.requires.few refl (sym c.new-pages.ensures) (rw c.split_at.ensures.back c.requires.read) in
    rw (p.1, p.2) (c.in_err-read_lines.ensures.fault c.args.bytes.now (paged (opened c.args.header) c.read_pages.new.pages) c.requires.few (sym c.new-lines.ensures) has)

pub returns-clause-ok : goal.returns-clause-ok
returns-clause-ok c =
    let has = c.in_ok-rest.ensures.ok c.args.bytes.now (opened c.args.header) c.requires.few refl (sym c.new-pages.ensures) (rw c.split_at.ensures.back c.requires.read) in
    c.in_ok-read_lines.ensures.ok c.args.bytes.now (paged (opened c.args.header) c.read_pages.new.pages) c.requires.few (sym c.new-lines.ensures) has
