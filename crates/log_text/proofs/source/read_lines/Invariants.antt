use Rattle.std.proofs.Common.{◌≡◌, ℕ, suc, List, true, false, cond}
use Rattle.std.specs.declared.option.Option.{Option}
use Rattle.pl_event.specs.declared.log.Log.{Log}
use Rattle.log_text.specs.Reading.{IsOnly}
use Rattle.log_text.specs.Streaming.{IsStreamed, WasRead, bytes_ahead}
use Rattle.log_text.proofs.ReaderLemmas.{lined}
use Rattle.log_text.proofs.source.read_lines.Given as goal

abbrev pub invariant-lines : goal.invariant-lines
invariant-lines g l =
    let left = g.S.Source.left in
    record {
      going : l.reading ≡ true → (limit : ℕ) (began : Option (List ℕ)) (log : Log) → log.lines ≡ l.initial.lines → IsStreamed limit began (left l.initial.source) l.initial.stream log
          → IsStreamed limit began (left l.source) l.stream (lined log l.lines);
      over : l.reading ≡ false → (limit : ℕ) (began : Option (List ℕ)) (log : Log) → log.lines ≡ l.initial.lines → IsStreamed limit began (left l.initial.source) l.initial.stream log
          → WasRead limit began (left l.source) (λ bytes. IsOnly bytes (lined log l.lines));
      quiet : g.S.Source.faults l.source ≡ g.S.Source.faults l.initial.source;
    }

abbrev pub decreases-lines : goal.decreases-lines
decreases-lines g l = cond l.reading (suc (bytes_ahead l.stream.buffer)) 0
