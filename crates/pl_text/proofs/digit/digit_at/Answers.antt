use Rattle.std.proofs.Common.{◌∷◌, ◌++◌, ℕ, List, sym, ap, ◌∙◌, arith}
use Rattle.pl_text.proofs.Digits.{one_digit, first_byte_is, rest_is, same_value}
use Rattle.pl_text.proofs.digit.digit_at.Goals as goal

pub returns-in_err-first-clause-every : goal.returns-in_err-first-clause-every
returns-in_err-first-clause-every c = λ digit rest small e.
    absurd (let there = sym c.in_err-first.ensures.missed ∙ e ∙ ap (λ (t : List ℕ). t ++ rest) (one_digit digit small) in cc)

pub returns-in_err-digit-clause-every : goal.returns-in_err-digit-clause-every
returns-in_err-digit-clause-every c = λ digit rest small e.
    let there = sym c.in_ok-first.ensures.found ∙ e ∙ ap (λ (t : List ℕ). t ++ rest) (one_digit digit small) in
    absurd (c.in_err-digit.ensures.missed digit small (first_byte_is there))

pub returns-clause-found : goal.returns-clause-found
returns-clause-found c =
    (c.in_ok-digit.ensures.below, c.in_ok-first.ensures.found ∙ ap (λ (x : ℕ). x ∷ c.in_ok-first.rest.now) c.in_ok-digit.ensures.found ∙ ap (λ (t : List ℕ). t ++ c.in_ok-first.rest.now) (sym (one_digit c.in_ok-digit.digit c.in_ok-digit.ensures.below)))

pub returns-clause-every : goal.returns-clause-every
returns-clause-every c = λ digit rest small e.
    let there = sym c.in_ok-first.ensures.found ∙ e ∙ ap (λ (t : List ℕ). t ++ rest) (one_digit digit small) in
    (same_value c.in_ok-digit.digit digit (omega (arith, c.in_ok-digit.ensures.below)) (omega arith) (sym c.in_ok-digit.ensures.found ∙ first_byte_is there), rest_is there)
