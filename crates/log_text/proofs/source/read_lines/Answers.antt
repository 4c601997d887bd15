use Rattle.std.proofs.Common.{ℕ, Ok, ap, ◌∙◌, refl, subst}
use Rattle.pl_event.specs.declared.log.Log.{Log}
use Rattle.log_text.specs.Streaming.{IsStreamed, IsCaused}
use Rattle.log_text.proofs.ReaderLemmas.{lined, same_lines}
use Rattle.log_text.proofs.source.read_lines.Goals as goal

pub lines-init : goal.lines-init
lines-init g c = record {
  going = λ _ limit began log same streamed. subst (λ (l : Log). IsStreamed limit began (g.S.Source.left c.args.source.now) c.args.stream.now l) (same_lines log c.args.lines.now same) streamed;
  over = λ e. absurd cc;
  quiet = refl;
}

pub returns-in-Err-clause-end : goal.returns-in-Err-clause-end
returns-in-Err-clause-end g c = λ limit began log same streamed.
    c.in-Err.ensures.end limit began (lined log c.lines.lines) refl (c.lines.invariant.going c.lines-test.true limit began log same streamed)

pub returns-in-Err-clause-faults : goal.returns-in-Err-clause-faults
returns-in-Err-clause-faults g c = subst (λ (before : ℕ). IsCaused before (g.S.Source.faults c.read_line.new.source) c.in-Err.end) c.lines.invariant.quiet c.in-Err.ensures.faults

pub lines-preserved : goal.lines-preserved
lines-preserved g c = record {
  going = λ more limit began log same streamed. c.in-Ok.ensures.more limit began (lined log c.lines.lines) refl (c.lines.invariant.going c.lines-test.true limit began log same streamed) (ap Ok more);
  over = λ done limit began log same streamed. c.in-Ok.ensures.over limit began (lined log c.lines.lines) refl (c.lines.invariant.going c.lines-test.true limit began log same streamed) (ap Ok done);
  quiet = c.in-Ok.ensures.faults ∙ c.lines.invariant.quiet;
}

pub returns-clause-ok : goal.returns-clause-ok
returns-clause-ok g c = c.lines.invariant.over c.lines-test.false
