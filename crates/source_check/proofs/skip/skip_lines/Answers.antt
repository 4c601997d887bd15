use Rattle.std.proofs.Common.{◌∙◌, Ok, ap, refl}
use Rattle.log_text.specs.Reading.{IsOnly, with_line}
use Rattle.source_check.specs.inner.Checking.{BeginsWith}
use Rattle.source_check.proofs.Growing.{grows_none, grows_more, was_read_as}
use Rattle.source_check.proofs.skip.skip_lines.Goals as goal

pub lines-init : goal.lines-init
lines-init g c = record {
  going = λ _ limit began log streamed.
      record { whole = log; streamed = streamed; grows = grows_none log (c.streamed_lines.ensures limit began (g.S.Source.left c.args.source.now) c.args.stream.now log streamed) };
  over = λ e. absurd cc;
  quiet = refl;
}

pub lines-preserved : goal.lines-preserved
lines-preserved g c = record {
  going = λ more limit began log streamed.
      let grown = c.lines.invariant.going c.lines-test.true limit began log streamed in
      let next = c.in-Ok.ensures.more limit began grown.whole grown.streamed (ap Ok more) in
      let sound = c.streamed_lines.ensures limit began (g.S.Source.left c.skip_line.new.source) c.skip_line.new.stream (with_line grown.whole next.0) next.1 in
      record { whole = with_line grown.whole next.0; streamed = next.1; grows = grows_more log grown.whole next.0 grown.grows sound };
  over = λ done limit began log streamed.
      let grown = c.lines.invariant.going c.lines-test.true limit began log streamed in
      let was = c.in-Ok.ensures.over limit began grown.whole grown.streamed (ap Ok done) in
      was_read_as limit began (g.S.Source.left c.skip_line.new.source) (λ bytes. IsOnly bytes grown.whole) (BeginsWith log) (λ bytes only. record { whole = grown.whole; only = only; grows = grown.grows }) was;
  quiet = c.in-Ok.ensures.faults ∙ c.lines.invariant.quiet;
}

pub returns-in-Err-clause-end : goal.returns-in-Err-clause-end
returns-in-Err-clause-end g c = λ limit began log streamed.
    let grown = c.lines.invariant.going c.lines-test.true limit began log streamed in
    c.in-Err.ensures.end limit began grown.whole grown.streamed
