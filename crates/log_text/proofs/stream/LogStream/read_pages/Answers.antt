use Rattle.std.proofs.Common.{ℕ, refl, subst, arith}
use Rattle.pl_event.specs.declared.log.Log.{Log}
use Rattle.log_text.specs.Streaming.{IsBegun, IsCaused}
use Rattle.log_text.proofs.ReaderLemmas.{paged, same_pages}
use Rattle.log_text.proofs.stream.LogStream.read_pages.Goals as goal

pub pages-init : goal.pages-init
pages-init g c = record {
  going = λ _ limit began log bare same begun. subst (λ (l : Log). IsBegun limit began (g.S.Source.left c.args.source.now) c.args.self.now l) (same_pages log c.args.pages.now same) begun;
  over = λ e. absurd cc;
  quiet = refl;
  later = omega arith;
}

pub returns-in-Err-clause-end : goal.returns-in-Err-clause-end
returns-in-Err-clause-end g c = λ limit began log bare same begun.
    c.in-Err.ensures.end limit began (paged log c.pages.pages) bare refl (c.pages.invariant.going c.pages-test.true limit began log bare same begun)

pub returns-in-Err-clause-faults : goal.returns-in-Err-clause-faults
returns-in-Err-clause-faults g c = subst (λ (before : ℕ). IsCaused before (g.S.Source.faults c.read_run.new.source) c.in-Err.end) c.pages.invariant.quiet c.in-Err.ensures.faults

pub returns-clause-faults : goal.returns-clause-faults
returns-clause-faults g c = c.pages.invariant.quiet
