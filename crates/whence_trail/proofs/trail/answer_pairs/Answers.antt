use Rattle.std.proofs.Common.{rules, arith}
use Rattle.whence_trail.specs.Answers.{answer_after}
use Rattle.whence_trail.specs.Blocks.{latest_in}
use Rattle.whence_trail.proofs.TrailLemmas.{set_mapped}
use Rattle.whence_trail.proofs.trail.answer_pairs.Goals as goal

pub answers-preserved : goal.answers-preserved
answers-preserved c =
    set_mapped (answer_after (latest_in c.args.blocks.now) c.args.happening.now) c.args.answers.now.items c.answers.answers.items c.answers.place c.index.result.now c.answer_after.result
    (omega arith) c.answers.invariant (search rules)
