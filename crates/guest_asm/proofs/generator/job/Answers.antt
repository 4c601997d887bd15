use Rattle.std.proofs.Common.{◌∙◌}
use Rattle.std.proofs.lemmas.List.Elements.{All-same}
use Rattle.rv_isa.specs.Valid.{IsValid}
use Rattle.guest_asm.specs.Generated.{program}
use Rattle.guest_asm.proofs.Generated.{valid-program}
use Rattle.guest_asm.proofs.generator.job.Goals as goal

pub words_of-requires : goal.words_of-requires
words_of-requires c =
    All-same IsValid c.as_slice.result.now (program c.args.s c.args.z) (c.as_slice.ensures.value ∙ c.in_ok-code.ensures.code) (valid-program c.args.s c.args.z)
