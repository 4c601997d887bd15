use Rattle.std.proofs.Common.{ℕ, List, refl, sym, ap, subst}
use Rattle.std.proofs.lemmas.Result.{err_from_is_err_and}
use Rattle.log_text.specs.Reading.{HasRead}
use Rattle.log_text.specs.Streaming.{WasRead, begun_log}
use Rattle.log_text.proofs.StreamLemmas.{taken_within}
use Rattle.run_record.specs.Texts.{IsUpgradeOf}
use Rattle.run_record.proofs.Upgrading.{begun}
use Rattle.run_record.proofs.upgrade.upgrade_opened.Goals as goal

pub returns-in_err-upgrade-clause-end : goal.returns-in_err-upgrade-clause-end
returns-in_err-upgrade-clause-end g c = λ limit began streamed.
    let p = err_from_is_err_and c.from_residual.result c.from_residual.ensures.1 in
    let stream = c.args.opening.stream in
    rw (p.1, p.2) (taken_within limit began (g.S.Source.left c.args.source.now) stream.buffer (λ bytes rest. HasRead stream.reader bytes rest (begun_log c.args.opening)) streamed)

pub upgrade_lines-requires : goal.upgrade_lines-requires
upgrade_lines-requires g c =
    let streamed = c.requires.streamed in
    let limit = streamed.0 in
    let began = streamed.1 in
    let opening = c.args.opening in
    (limit, began, begun limit began (g.S.Source.left c.args.source.now) opening c.in_ok-upgrade.upgrade streamed.2 (c.in_ok-upgrade.ensures (begun_log opening) refl (sym c.as_slice.ensures) refl))

pub returns-in-Ok-clause-ok : goal.returns-in-Ok-clause-ok
returns-in-Ok-clause-ok g c = λ limit began streamed.
    let opening = c.args.opening in
    let u = begun limit began (g.S.Source.left c.args.source.now) opening c.in_ok-upgrade.upgrade streamed (c.in_ok-upgrade.ensures (begun_log opening) refl (sym c.as_slice.ensures) refl) in
    subst (λ (text : List ℕ). WasRead limit began (g.S.Source.left c.upgrade_lines.new.source) (λ bytes. IsUpgradeOf bytes text)) (ap (λ v. v.items) (sym c.into_bytes.ensures.value)) (c.in-Ok.ensures.ok limit began u)

pub returns-clause-end : goal.returns-clause-end
returns-clause-end g c = λ limit began streamed.
    let opening = c.args.opening in
    c.in-Err.ensures.end limit began (begun limit began (g.S.Source.left c.args.source.now) opening c.in_ok-upgrade.upgrade streamed (c.in_ok-upgrade.ensures (begun_log opening) refl (sym c.as_slice.ensures) refl))
