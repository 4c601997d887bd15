use Rattle.std.proofs.Common.{◌∷◌, ◌++◌, sym, ap, ◌∙◌, List, ℕ, arith}
use Rattle.std.specs.Fmt.{decimal}
use Rattle.pl_event.specs.declared.log.Point.{Point}
use Rattle.log_grammar.proofs.PointLemmas.{word_behind, number_there}
use Rattle.log_grammar.proofs.grammar.arcs.point_at.Goals as goal

abbrev point_of : ℕ → ℕ → Point
point_of hart number = record { hart = hart; number = number }

pub returns : goal.returns
returns c = record {
  found = (
    (omega (arith, c.in_ok-hart.ensures.found.0), omega (arith, c.if-number-eq0.false), c.in_ok-number.ensures.found.low),
    c.in_ok-hart.ensures.found.1
        ∙ ap (λ (t : List ℕ). decimal c.in_ok-hart.hart ++ t) (c.in_ok-rest.ensures.found ∙ ap (λ (t : List ℕ). 58 ∷ t) c.in_ok-number.ensures.found.spelled)
        ∙ sym (word_behind (point_of c.in_ok-hart.hart c.in_ok-number.number) c.in_ok-number.rest.now),
  );
  every = λ point rest form closes t.
      let hart = c.in_ok-hart.ensures.every point.hart (58 ∷ (decimal point.number ++ rest)) (omega (arith, form.0)) (t ∙ word_behind point rest) in
      let colon = c.in_ok-rest.ensures.every (decimal point.number ++ rest) hart.1 in
      let number = c.in_ok-number.ensures.every point.number rest (number_there c.in_ok-rest.rest.now point rest form closes colon) in
      (ap (λ h. point_of h c.in_ok-number.number) hart.0 ∙ ap (point_of point.hart) number.0, number.1);
}
