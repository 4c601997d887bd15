use Rattle.std.proofs.Common.{◌≡◌, ◌≤◌, ◌∙◌, ℕ, List, length, sym, ap, subst}
use Rattle.log_grammar.specs.Spelling.{log_spelling}
use Rattle.run_record.proofs.written.record_job.Goals as goal

pub returns-clause-short : goal.returns-clause-short
returns-clause-short c =
    let told = c.in_ok-write_run.ensures in
    let bytes : c.into_bytes.result.items ≡ log_spelling told.log = ap (λ v. v.items) c.into_bytes.ensures.value ∙ told.told in
    subst (λ (text : List ℕ). length text ≤ 67108864) (sym bytes) (c.recorded_runs.ensures.short c.args.job.now told.log c.requires told.of_run)
