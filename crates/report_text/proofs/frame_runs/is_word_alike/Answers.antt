use Rattle.std.proofs.Common.{◌∙◌}
use Rattle.std.proofs.lemmas.Bool.{eqb-true}
use Rattle.report_text.proofs.FrameLemmas.{word_alike}
use Rattle.report_text.proofs.frame_runs.is_word_alike.Goals as goal

pub returns-then-first-lt8 : goal.returns-then-first-lt8
returns-then-first-lt8 c alike i low = word_alike c.args.word c.nibble-first.result c.if-first-lt8.true (eqb-true _ _ alike ∙ c.all_nibbles.ensures) i low
