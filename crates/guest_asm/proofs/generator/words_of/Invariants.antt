use Rattle.std.proofs.Common.{take, map}
use Rattle.guest_asm.specs.Jobs.{coded, AreCells}
use Rattle.guest_asm.proofs.generator.words_of.Given as goal

abbrev pub invariant-code : goal.invariant-code
invariant-code l = AreCells (map (λ i. coded i) (take l.instr-index l.code)) l.words.items
