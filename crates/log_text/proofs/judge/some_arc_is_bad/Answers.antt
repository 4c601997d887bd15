use Rattle.std.proofs.Common.{◌+◌, ◌<◌, ◌||◌, ◌==◌, nat_lt, length, get_or, drop, Bool, sym, ap, ◌∙◌, arith}
use Rattle.std.proofs.Math.Bool.{or_assoc, or-false}
use Rattle.std.specs.List.{list_any}
use Rattle.pl_event.specs.declared.log.Point.{Point}
use Rattle.log_grammar.specs.Arcs.{arcs_in}
use Rattle.log_grammar.specs.Spelling.{points_from}
use Rattle.log_grammar.proofs.ArcLemmas.{any_from, any_from_end}
use Rattle.log_text.proofs.judge.some_arc_is_bad.Goals as goal

pub harts-preserved : goal.harts-preserved
harts-preserved c =
    let hart = c.harts.hart in
    let arcs = c.args.arcs.now in
    let test = λ (point : Point). (point.hart == c.args.own) || nat_lt (get_or c.args.numbers.now point.hart 0) point.number in
    let here : hart < length arcs = omega arith in
    c.harts.invariant
    ∙ ap (λ (b : Bool). c.harts.bad || b) (any_from test arcs hart c.is_arc_bad-bad.result here (rw c.from-at.ensures at c.is_arc_bad-bad.ensures.some) (rw c.from-at.ensures at c.is_arc_bad-bad.ensures.none))
    ∙ sym (or_assoc c.harts.bad c.is_arc_bad-bad.result (list_any test (points_from (hart + 1) (arcs_in (drop (hart + 1) arcs)))))

pub returns : goal.returns
returns c =
    let test = λ (point : Point). (point.hart == c.args.own) || nat_lt (get_or c.args.numbers.now point.hart 0) point.number in
    sym (c.harts.invariant ∙ ap (λ (b : Bool). c.harts.bad || b) (any_from_end test c.args.arcs.now c.harts.hart (omega arith)) ∙ or-false c.harts.bad)
