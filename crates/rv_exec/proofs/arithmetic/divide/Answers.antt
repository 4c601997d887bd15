use Rattle.std.proofs.Common.{ℤ, arith, rules, ap, ◌∙◌, w32}
use Rattle.std.specs.Int.{cast_signed, cast_unsigned, int_wrapping_div}
use Rattle.std.specs.Int.RustNames.{FitsSigned}
use Rattle.std.proofs.lemmas.Int.{to_z-of_z}
use Rattle.rv_exec.specs.Meaning.{signed, unsigned}
use Rattle.rv_exec.proofs.Quotients.{divided}
use Rattle.rv_exec.proofs.arithmetic.divide.Goals as goal

pub returns-else-b-eq0 : goal.returns-else-b-eq0
returns-else-b-eq0 c =
    let a = c.cast_signed.result in
    let b = c.cast_signed-else-b-eq0.result in
    let q = c.wrapping_div.result in
    let fits_a : FitsSigned w32 a = search rules in
    let fits_b : FitsSigned w32 b = search rules in
    let fits_q : FitsSigned w32 q = search rules in
    divided c.args.a c.args.b c.cast_unsigned.result (omega arith) c.if-b-eq0.false
    (c.cast_unsigned.ensures ∙ (ap unsigned (to_z-of_z w32 q fits_q ∙ c.wrapping_div.ensures)
    ∙ (ap (λ (y : ℤ). unsigned (int_wrapping_div w32 y (cast_signed w32 (cast_unsigned w32 b)))) (to_z-of_z w32 a fits_a ∙ c.cast_signed.ensures)
    ∙ ap (λ (y : ℤ). unsigned (int_wrapping_div w32 (signed c.args.a) y)) (to_z-of_z w32 b fits_b ∙ c.cast_signed-else-b-eq0.ensures))))
