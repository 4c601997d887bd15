use Rattle.std.proofs.Common.{[], ap, ◌∙◌}
use Rattle.std.proofs.lemmas.Result.{IfOk-weaker}
use Rattle.whence_text.specs.Text.{whence_text}
use Rattle.whence_text.proofs.run.answer_job.Goals as goal

pub follow-requires : goal.follow-requires
follow-requires c = record { entries = []; stands = c.in_ok-machine.ensures; keeps = c.in_ok-trail.ensures }

pub returns : goal.returns
returns c =
    let w = c.in_ok-follow.ensures in
    IfOk-weaker c.whence_text.result _ _
    (λ text is. record { entries = w.entries; run = w.run; text_is = is ∙ ap (whence_text c.args.lined.now) (c.answers.ensures ∙ w.keeps.answers) })
    c.whence_text.ensures
