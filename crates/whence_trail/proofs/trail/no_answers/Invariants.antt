use Rattle.std.proofs.Common.{◌≡◌, map, take}
use Rattle.whence_trail.specs.Answers.{no_answer}
use Rattle.whence_trail.proofs.trail.no_answers.Given as goal

abbrev pub invariant-pairs : goal.invariant-pairs
invariant-pairs l = l.answers.items ≡ map no_answer (take l.pair-index l.pairs)
