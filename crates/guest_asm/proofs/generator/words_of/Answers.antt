use Rattle.std.proofs.Common.{length, map, take, ◌+◌, ◌^◌, ◌<◌, subst, sym}
use Rattle.rv_isa.specs.declared.instruction.Instr.TheVariants as instr
use Rattle.guest_asm.specs.Jobs.{coded, AreCells}
use Rattle.guest_asm.proofs.Generating.{word-more}
use Rattle.guest_asm.proofs.generator.words_of.Goals as goal

pub code-preserved : goal.code-preserved
code-preserved c =
    let code = c.args.code.now in
    let i = c.code.instr-index in
    let within : i < length code = c.code-test.true in
    let fits : c.encode.result < 2 ^ 32 = c.encode.type_inv in
    subst (AreCells (map (λ j. coded j) (take (i + 1) code))) (sym c.in_ok-push.ensures.items)
    (word-more code i (instr.Lui 0 0) c.code.words.items c.encode.result within c.code.invariant (fits, c.encode.ensures.back))
