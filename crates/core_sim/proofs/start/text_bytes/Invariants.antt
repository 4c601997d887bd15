use Rattle.std.proofs.Common.{◌≡◌, ◌++◌, drop}
use Rattle.core_sim.specs.Start.{text_bytes}
use Rattle.core_sim.proofs.start.text_bytes.Given as goal

abbrev pub invariant-loop-word : goal.invariant-loop-word
invariant-loop-word l = l.bytes.items ++ text_bytes (drop l.word-index l.words) ≡ text_bytes l.words
