use Rattle.std.proofs.Common.{◌≡◌, ℕ, suc, List, true, false, cond, None}
use Rattle.std.specs.declared.option.Option.{Option}
use Rattle.pl_event.specs.declared.log.Log.{Log}
use Rattle.log_text.specs.Streaming.{WasRead, bytes_ahead}
use Rattle.source_check.specs.Answers.{HasOrder}
use Rattle.source_check.specs.inner.Checking.{Follows, IsFollowed}
use Rattle.source_check.proofs.source.check_lines.Given as goal

abbrev pub invariant-lines : goal.invariant-lines
invariant-lines g l =
    let left = g.S.Source.left in
    record {
      going : l.reading ≡ true → (limit : ℕ) (began : Option (List ℕ)) (log : Log) → Follows limit began (left l.initial.source) l.initial.stream l.initial.check log
          → IsFollowed limit began (left l.source) l.stream l.check;
      over : l.reading ≡ false → (limit : ℕ) (began : Option (List ℕ)) (log : Log) → Follows limit began (left l.initial.source) l.initial.stream l.initial.check log
          → WasRead limit began (left l.source) (λ bytes. HasOrder bytes None);
      quiet : g.S.Source.faults l.source ≡ g.S.Source.faults l.initial.source;
    }

abbrev pub decreases-lines : goal.decreases-lines
decreases-lines g l = cond l.reading (suc (bytes_ahead l.stream.buffer)) 0
