use Rattle.std.proofs.Common.{refl, sym, subst}
use Rattle.std.proofs.lemmas.Result.{err_from_is_err_and}
use Rattle.log_text.specs.declared.cause.LogFault.{LogFault}
use Rattle.log_text.specs.Streaming.{Streams}
use Rattle.log_text.specs.Reading.{IsReadBy, IsNoLog, opened}
use Rattle.log_text.proofs.StreamLemmas.{begun_stream, header_there, no_header_there, filled_ready, pages_inside}
use Rattle.log_text.proofs.stream.LogStream.open.Goals as goal

pub returns-in-Err-Fault-clause-end : goal.returns-in-Err-Fault-clause-end
returns-in-Err-Fault-clause-end g c =
    let began = g.S.Source.left c.args.source.now in
    let now = g.S.Source.left c.fill.new.source in
    let begun = begun_stream c.args.limit began now c.in_ok-buffer.buffer c.fill.new.self c.requires c.in_ok-buffer.ensures c.in_ok-fill.ensures.ok in
    c.refused.ensures.end c.args.limit began
    (subst (λ (f : LogFault). Streams c.args.limit began now c.fill.new.self (λ bytes rest. IsNoLog bytes f)) (sym c.in-Err-Fault.fault-is)
    (no_header_there c.args.limit began now c.fill.new.self (λ bytes rest. IsNoLog bytes c.in-Err-Fault.fault) c.front.result.now c.front.ensures (filled_ready began now c.in_ok-buffer.buffer c.fill.new.self c.in_ok-fill.ensures.ok) begun
    (λ later holds.
    let fault = c.in-Err-Fault.ensures.fault later holds in
    let there = rw c.in-Err-Fault.field-0-is at fault in
    there)))

pub returns-in_err-read_pages-clause-end : goal.returns-in_err-read_pages-clause-end
returns-in_err-read_pages-clause-end g c =
    let began = g.S.Source.left c.args.source.now in
    let now = g.S.Source.left c.fill.new.source in
    let begun = begun_stream c.args.limit began now c.in_ok-buffer.buffer c.fill.new.self c.requires c.in_ok-buffer.ensures c.in_ok-fill.ensures.ok in
    let header = header_there c.args.limit began now c.fill.new.self (λ bytes rest. IsReadBy c.in-Ok.header.reader bytes rest (opened c.in-Ok.header)) c.front.result.now c.in-Ok.header.len c.front.ensures
    (filled_ready began now c.in_ok-buffer.buffer c.fill.new.self c.in_ok-fill.ensures.ok) begun c.in-Ok.ensures.ok in
    let p = err_from_is_err_and c.from_residual-in_err-read_pages.result c.from_residual-in_err-read_pages.ensures.1 in
    rw (p.1, p.2) (c.in_err-read_pages.ensures.end c.args.limit began (opened c.in-Ok.header) refl (sym c.new-pages.ensures) (rw c.pass.ensures header))

pub returns-clause-ok : goal.returns-clause-ok
returns-clause-ok g c =
    let began = g.S.Source.left c.args.source.now in
    let now = g.S.Source.left c.fill.new.source in
    let begun = begun_stream c.args.limit began now c.in_ok-buffer.buffer c.fill.new.self c.requires c.in_ok-buffer.ensures c.in_ok-fill.ensures.ok in
    let header = header_there c.args.limit began now c.fill.new.self (λ bytes rest. IsReadBy c.in-Ok.header.reader bytes rest (opened c.in-Ok.header)) c.front.result.now c.in-Ok.header.len c.front.ensures
    (filled_ready began now c.in_ok-buffer.buffer c.fill.new.self c.in_ok-fill.ensures.ok) begun c.in-Ok.ensures.ok in
    c.in_ok-read_pages.ensures.ok c.args.limit began (opened c.in-Ok.header) refl (sym c.new-pages.ensures) (rw c.pass.ensures header)

pub returns-clause-pages : goal.returns-clause-pages
returns-clause-pages g c =
    pages_inside c.args.limit (g.S.Source.left c.args.source.now) (g.S.Source.left c.read_pages.new.source) c.read_pages.new.self c.in-Ok.header.harts c.in-Ok.header.block c.read_pages.new.pages (returns-clause-ok g c)
