use Rattle.std.proofs.Common.{◌≡◌, List, IfOk, subst, slice_index}
use Rattle.report_text.specs.declared.runs.ByteRun.{ByteRun}
use Rattle.report_text.proofs.FrameLemmas.{represented_runs}
use Rattle.report_text.proofs.frame_runs.runs_of_words.Goals as goal

pub returns-clause-represented : goal.returns-clause-represented
returns-clause-represented c bytes st =
    subst (λ (own : List ByteRun). IfOk c.runs_below.result (λ runs. runs.items ≡ own)) (represented_runs (slice_index c.args.words.now) bytes st) c.runs_below.ensures.runs
