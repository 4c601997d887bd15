use Rattle.std.proofs.Common.{◌≡◌, ℕ, suc, List, true, false, cond}
use Rattle.std.specs.declared.option.Option.{Option}
use Rattle.pl_event.specs.declared.log.Log.{Log}
use Rattle.log_text.specs.Streaming.{IsStreamed, WasRead, bytes_ahead}
use Rattle.source_check.specs.inner.Checking.{BeginsWith, IsGrown}
use Rattle.source_check.proofs.skip.skip_lines.Given as goal

abbrev pub invariant-lines : goal.invariant-lines
invariant-lines g l =
    let left = g.S.Source.left in
    record {
      going : l.reading ≡ true → (limit : ℕ) (began : Option (List ℕ)) (log : Log) → IsStreamed limit began (left l.initial.source) l.initial.stream log
          → IsGrown limit began (left l.source) l.stream log;
      over : l.reading ≡ false → (limit : ℕ) (began : Option (List ℕ)) (log : Log) → IsStreamed limit began (left l.initial.source) l.initial.stream log
          → WasRead limit began (left l.source) (BeginsWith log);
      quiet : g.S.Source.faults l.source ≡ g.S.Source.faults l.initial.source;
    }

abbrev pub decreases-lines : goal.decreases-lines
decreases-lines g l = cond l.reading (suc (bytes_ahead l.stream.buffer)) 0
