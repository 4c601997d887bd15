use Rattle.std.proofs.Common.{◌≡◌, ◌++◌, map, take, drop}
use Rattle.whence_trail.specs.Answers.{answer_after}
use Rattle.whence_trail.specs.Blocks.{latest_in}
use Rattle.whence_trail.proofs.trail.answer_pairs.Given as goal

abbrev pub invariant-answers : goal.invariant-answers
invariant-answers l = l.answers.items ≡ map (answer_after (latest_in l.blocks) l.happening) (take l.place l.initial.answers.items) ++ drop l.place l.initial.answers.items
