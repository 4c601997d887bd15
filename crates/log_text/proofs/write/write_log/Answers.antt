use Rattle.std.proofs.Common.{arith, ◌≡◌, ◌<◌, ◌^◌, length, List, ℕ, sym, subst}
use Rattle.std.proofs.lemmas.Grind.{common_steps}
use Rattle.log_grammar.specs.Spelling.{log_spelling}
use Rattle.log_text.proofs.TextLength.{text_short}
use Rattle.log_text.proofs.write.write_log.Goals as goal

pub returns-clause-short : goal.returns-clause-short
returns-clause-short c = λ formed.
    let text : c.into_bytes.result.items ≡ log_spelling c.args.log.now = grind (arith, common_steps) in
    subst (λ (bytes : List ℕ). length bytes < 2 ^ 31) (sym text) (text_short c.args.log.now formed)
