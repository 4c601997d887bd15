use Rattle.std.proofs.Common.{◌≡◌, ◌∷◌, ◌-◌, ℕ, take, drop, length, true, ltb, ap, ◌∙◌, arith}
use Rattle.std.proofs.lemmas.Bool.{lt-ltb}
use Rattle.pl_text.proofs.Digits.{second, behind_one}
use Rattle.pl_text.proofs.digit.second_digit.Goals as goal

pub returns-clause-taken : goal.returns-clause-taken
returns-clause-taken c = λ byte digit rest e small glyph.
    let is : c.value_at-digit.result ≡ digit = c.value_at-digit.ensures.every digit rest small (e ∙ ap (λ (x : ℕ). x ∷ rest) glyph) in
    let yes : ltb c.value_at-digit.result c.args.base ≡ true = lt-ltb _ _ (omega (arith, is, small)) in
    let one : c.from-3.result ≡ 1 = rw yes at c.from-3.ensures in
    let step : c.from-4.result ≡ 1 = rw yes at c.from-4.ensures in (
      rw (c.from-value.ensures, c.from.ensures, c.from-2.ensures, one, is) (second c.args.value c.args.base digit c.requires.low),
      ap (λ (n : ℕ). take (length c.args.text.now - n) (drop n c.args.text.now)) step ∙ behind_one e,
    )
