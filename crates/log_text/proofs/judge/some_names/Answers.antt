use Rattle.std.proofs.Common.{◌≡◌, ◌+◌, ◌&&◌, ◌==◌, ℕ, true, false, Option, Some, None, get_or, refl, sym, below_more, arith}
use Rattle.std.proofs.lemmas.Bool.{both_ways, and_parts, and_from, eqb-true, eq-eqb, false≢true}
use Rattle.pl_event.specs.declared.log.Point.{Point}
use Rattle.log_text.proofs.judge.some_names.Goals as goal

-- a notice that is found names the record
found : (hart number : ℕ) (notice : Option Point) →
    ((point : Point) → notice ≡ Some point → true ≡ ((point.hart == hart) && (point.number == number + 1))) → (notice ≡ None → true ≡ false) →
    (point : Point) × (notice ≡ Some point) × (point.hart ≡ hart) × (point.number ≡ number + 1)
found hart number None some none = absurd (false≢true (sym (none refl)))
found hart number (Some point) some none =
    let parts = and_parts (point.hart == hart) (point.number == number + 1) (sym (some point refl)) in
    (point, refl, eqb-true point.hart hart parts.0, eqb-true point.number (number + 1) parts.1)

pub returns-then-names-clause-yes : goal.returns-then-names-clause-yes
returns-then-names-clause-yes c = λ _.
    let is_found = found c.args.hart c.args.number (get_or c.args.notices.now c.harts.own None) c.if-names.ensures.some c.if-names.ensures.none in
    (c.harts.own, is_found.0, omega arith, is_found.1, is_found.2, is_found.3)

pub harts-preserved : goal.harts-preserved
harts-preserved c = below_more _ _ c.harts.invariant
    (λ point there same counted.
    both_ways ((point.hart == c.args.hart) && (point.number == c.args.number + 1))
    (sym (c.if-names.ensures.some point there))
    (and_from _ _ (eq-eqb point.hart c.args.hart same) (eq-eqb point.number (c.args.number + 1) counted)))
