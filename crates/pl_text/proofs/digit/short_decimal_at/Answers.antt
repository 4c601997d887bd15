use Rattle.std.proofs.Common.{◌∷◌, ℕ, sym, ap, ◌∙◌}
use Rattle.pl_text.proofs.Digits.{first_byte_is}
use Rattle.pl_text.proofs.ShortNumbers.{IsRead, Takes, short_found, short_every, some_digit}
use Rattle.pl_text.proofs.digit.short_decimal_at.Goals as goal

pub returns-in_err-first-clause-every : goal.returns-in_err-first-clause-every
returns-in_err-first-clause-every c = λ n rest few closed e.
    let there = some_digit n rest few in
    absurd (let none = sym c.in_err-first.ensures.missed ∙ e ∙ there.3 in cc)

pub returns-in_err-figure-clause-every : goal.returns-in_err-figure-clause-every
returns-in_err-figure-clause-every c = λ n rest few closed e.
    let there = some_digit n rest few in
    absurd (c.in_err-figure.ensures.missed there.0 there.2 (first_byte_is (sym c.in_ok-first.ensures.found ∙ e ∙ there.3)))

pub returns-clause-found : goal.returns-clause-found
returns-clause-found c =
    let figure = c.in_ok-figure.figure in
    let digit = c.value_at-digit.result in
    let left = c.in_ok-first.rest.now in
    let read : IsRead c.args.text.now left figure digit = record {
      first = c.in_ok-first.ensures.found ∙ ap (λ (x : ℕ). x ∷ left) c.in_ok-figure.ensures.found;
      below = c.in_ok-figure.ensures.below;
      found = c.value_at-digit.ensures.found;
      every = c.value_at-digit.ensures.every;
    } in
    let count : Takes figure digit c.from-2.result = record { one = λ yes. rw yes at c.from-2.ensures; none = λ no. rw no at c.from-2.ensures } in
    let skipped : Takes figure digit c.from-3.result = record { one = λ yes. rw yes at c.from-3.ensures; none = λ no. rw no at c.from-3.ensures } in
    rw (c.from-figure.ensures, c.from.ensures) (short_found c.args.text.now left figure digit c.from-2.result c.from-3.result read count skipped)

pub returns-clause-every : goal.returns-clause-every
returns-clause-every c = λ n rest few closed e.
    let figure = c.in_ok-figure.figure in
    let digit = c.value_at-digit.result in
    let left = c.in_ok-first.rest.now in
    let read : IsRead c.args.text.now left figure digit = record {
      first = c.in_ok-first.ensures.found ∙ ap (λ (x : ℕ). x ∷ left) c.in_ok-figure.ensures.found;
      below = c.in_ok-figure.ensures.below;
      found = c.value_at-digit.ensures.found;
      every = c.value_at-digit.ensures.every;
    } in
    let count : Takes figure digit c.from-2.result = record { one = λ yes. rw yes at c.from-2.ensures; none = λ no. rw no at c.from-2.ensures } in
    let skipped : Takes figure digit c.from-3.result = record { one = λ yes. rw yes at c.from-3.ensures; none = λ no. rw no at c.from-3.ensures } in
    rw (c.from-figure.ensures, c.from.ensures) (short_every c.args.text.now left figure digit c.from-2.result c.from-3.result n rest read count skipped few closed e)
