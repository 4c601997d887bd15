use Rattle.std.proofs.Common.{◌≡◌, ◌∷◌, [], List, ℕ}
use Rattle.pl_event.specs.declared.log.Point.{Point}
use Rattle.log_grammar.specs.Form.{ArePointsInForm, most_read}
use Rattle.log_grammar.specs.Reads.{behind_commas}
use Rattle.log_grammar.specs.Spelling.{point_word}
use Rattle.log_grammar.proofs.ArcReading.{none_read, first_point, more_points, none_behind, whole_list, shorter, if_none}
use Rattle.log_grammar.proofs.grammar.arcs.list_at.Goals as goal

pub returns-in_err-first-clause-missed : goal.returns-in_err-first-clause-missed
returns-in_err-first-clause-missed c =
    if_none c.from_residual.result ((points : List Point) (after : List ℕ) → ArePointsInForm most_read points → 44 ∷ c.args.text.now ≡ behind_commas points (10 ∷ after) → ⊥)
    c.from_residual.ensures (none_read c.args.text.now c.in_err-first.ensures)

pub points-init : goal.points-init
points-init c = record { far = first_point c.args.text.now c.in_ok-first.first c.in_ok-first.rest c.add.new.self c.in_ok-first.ensures (c.add.ensures [] c.new.ensures) }

pub returns-in_default-point_at-clause-missed : goal.returns-in_default-point_at-clause-missed
returns-in_default-point_at-clause-missed c = none_behind c.args.text.now c.points.rest.now c.in-Some.behind.now c.points.list c.points.invariant.far c.in-Some.ensures.found c.in_default-point_at.ensures

pub points-smaller : goal.points-smaller
points-smaller c = shorter c.points.rest.now c.in-Some.behind.now c.in-Some-point_at.after.now (point_word c.in-Some-point_at.point) c.in-Some.ensures.found c.in-Some-point_at.ensures.found.1

pub points-preserved : goal.points-preserved
points-preserved c = record {
  far =
      more_points c.args.text.now c.points.rest.now c.in-Some.behind.now c.in-Some-point_at.point c.in-Some-point_at.after c.points.list c.add-in-Some.new.self c.points.invariant.far c.in-Some.ensures.found
      c.in-Some-point_at.ensures c.add-in-Some.ensures;
}

pub returns-clause-found : goal.returns-clause-found
returns-clause-found c =
    whole_list c.args.text.now c.points.rest.now c.points.list c.points.invariant.far (λ behind e. c.in_default.ensures.every behind e)
