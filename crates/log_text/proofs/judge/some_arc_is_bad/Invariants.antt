use Rattle.std.proofs.Common.{◌≡◌, ◌||◌, ◌==◌, nat_lt, get_or, drop}
use Rattle.std.specs.List.{list_any}
use Rattle.pl_event.specs.declared.log.Point.{Point}
use Rattle.log_grammar.specs.Arcs.{arcs_in}
use Rattle.log_grammar.specs.Spelling.{points_from}
use Rattle.log_text.proofs.judge.some_arc_is_bad.Given as goal

abbrev pub invariant-harts : goal.invariant-harts
invariant-harts l =
    list_any (λ (point : Point). (point.hart == l.own) || nat_lt (get_or l.numbers point.hart 0) point.number) (points_from 0 (arcs_in l.arcs))
    ≡ (l.bad || list_any (λ (point : Point). (point.hart == l.own) || nat_lt (get_or l.numbers point.hart 0) point.number) (points_from l.hart (arcs_in (drop l.hart l.arcs))))
