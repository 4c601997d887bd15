use Rattle.std.proofs.Common.{◌≡◌, ◌≤◌, ℕ, suc, List, [], true, false, cond}
use Rattle.std.specs.declared.option.Option.{Option}
use Rattle.pl_event.specs.declared.log.Log.{Log}
use Rattle.log_text.specs.Streaming.{IsBegun, IsStreamed, bytes_ahead}
use Rattle.log_text.proofs.ReaderLemmas.{paged}
use Rattle.log_text.proofs.stream.LogStream.read_pages.Given as goal

abbrev pub invariant-pages : goal.invariant-pages
invariant-pages g l = record {
  going : l.reading ≡ true → (limit : ℕ) (began : Option (List ℕ)) (log : Log) → log.lines ≡ [] → log.pages ≡ l.initial.pages → IsBegun limit began (g.S.Source.left l.initial.source) l.initial.self log
      → IsBegun limit began (g.S.Source.left l.source) l.self (paged log l.pages);
  over : l.reading ≡ false → (limit : ℕ) (began : Option (List ℕ)) (log : Log) → log.lines ≡ [] → log.pages ≡ l.initial.pages → IsBegun limit began (g.S.Source.left l.initial.source) l.initial.self log
      → IsStreamed limit began (g.S.Source.left l.source) l.self (paged log l.pages);
  quiet : g.S.Source.faults l.source ≡ g.S.Source.faults l.initial.source;
  later : g.S.Source.faults l.initial.source ≤ g.S.Source.faults l.source;
}

abbrev pub decreases-pages : goal.decreases-pages
decreases-pages g l = cond l.reading (suc (bytes_ahead l.self.buffer)) 0
