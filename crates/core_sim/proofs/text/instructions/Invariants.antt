use Rattle.std.proofs.Common.{◌≡◌, ◌++◌, drop, map}
use Rattle.rv_isa.specs.Table.{instruction_of}
use Rattle.core_sim.proofs.text.instructions.Given as goal

abbrev pub invariant-loop-word : goal.invariant-loop-word
invariant-loop-word l = l.list.items ++ map instruction_of (drop l.word-index l.words) ≡ map instruction_of l.words
