use Rattle.std.proofs.Common.{sym, ◌∙◌}
use Rattle.guest_asm.proofs.Digits.{digits-none, digits-run, run-over, run-end}
use Rattle.guest_asm.proofs.number.digits_of.Goals as goal

pub returns-then-is_empty : goal.returns-then-is_empty
returns-then-is_empty c = sym (digits-none c.args.base c.args.text.now (sym c.is_empty.ensures ∙ c.if-is_empty.true))

pub returns-then-value-gt4294967295 : goal.returns-then-value-gt4294967295
returns-then-value-gt4294967295 c =
    sym (digits-run c.args.base c.args.text.now c.requires.low (sym c.is_empty.ensures ∙ c.if-is_empty.false)
    ∙ sym c.digits.invariant.told
    ∙ run-over c.args.base c.digits.value c.args.text.now c.digits.byte-index _ _ _ c.digits-test.true c.digit_value-digit.ensures.value c.from.ensures c.from-in-digits.ensures c.if-value-gt4294967295.true)

pub returns : goal.returns
returns c =
    sym (digits-run c.args.base c.args.text.now c.requires.low (sym c.is_empty.ensures ∙ c.if-is_empty.false)
    ∙ sym c.digits.invariant.told
    ∙ run-end c.args.base c.digits.value c.args.text.now c.digits.byte-index c.digits-test.false)
