use Rattle.std.proofs.Common.{◌∷◌, ◌-◌, ◌/◌, false, drop, ℕ, length-set, sym, ap, subst, ◌∙◌, arith}
use Rattle.std.specs.Prelude.{IsAscii}
use Rattle.std.specs.Fmt.{digits_onto}
use Rattle.std.proofs.Math.ListN.{drop_of_length-le}
use Rattle.std.proofs.lemmas.Str.Ascii.{IsAscii-nil, IsAscii-cons}
use Rattle.log_text.proofs.HexDigits.{hex_begun, hex_ended, hex_goes_on, hex_next}
use Rattle.log_text.proofs.digits.write_hex.Goals as goal

pub digits-init : goal.digits-init
digits-init c =
    let none = drop_of_length-le c.args.buffer.now {i = 64} (omega (arith, c.told-buffer)) in (
      omega arith,
      c.told-buffer,
      ap (digits_onto 64 16 false c.args.n) none ∙ hex_begun c.args.n,
      subst IsAscii (sym none) IsAscii-nil,
    )

pub digits-preserved : goal.digits-preserved
digits-preserved c =
    let l = c.digits in
    let (inside, long, written, ascii) = l.invariant in
    let next = hex_next l.buffer l.at c.last_digit.result c.digits-test.true (omega (arith, inside, long)) in
    let all = drop l.at l.buffer in
    let digit = ap (λ (d : ℕ). d ∷ all) c.last_digit.ensures.digit in (
      omega arith,
      length-set l.buffer (l.at - 1) c.last_digit.result ∙ long,
      ap (digits_onto (l.at - 1) 16 false (l.rest / 16)) (next ∙ digit)
          ∙ sym (hex_goes_on l.rest all l.at c.digits-test.true c.if-rest-eq0.false) ∙ written,
      subst IsAscii (sym next) (IsAscii-cons c.last_digit.result all c.last_digit.ensures.ascii ascii),
    )

pub returns-then-rest-eq0 : goal.returns-then-rest-eq0
returns-then-rest-eq0 c =
    let l = c.digits in
    let (inside, long, written, ascii) = l.invariant in
    let next = hex_next l.buffer l.at c.last_digit.result c.digits-test.true (omega (arith, inside, long)) in
    let all = drop l.at l.buffer in
    let digit = ap (λ (d : ℕ). d ∷ all) c.last_digit.ensures.digit in
    record {
      inside = omega arith;
      written = next ∙ digit ∙ sym (hex_ended l.rest all l.at c.digits-test.true c.if-rest-eq0.true) ∙ written;
      ascii = subst IsAscii (sym next) (IsAscii-cons c.last_digit.result all c.last_digit.ensures.ascii ascii);
    }
