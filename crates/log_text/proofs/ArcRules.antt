-- The rule on arcs, from what is kept of them.
use Rattle.std.proofs.Common.{◌≡◌, ℕ, ◌<◌, ◌||◌, true, false, eqb, ltb, leb, List, get_or, refl, sym, ap, ◌∙◌, arith}
use Rattle.std.specs.List.{list_any}
use Rattle.std.proofs.Math.Bool.{or-false}
use Rattle.std.proofs.lemmas.Bool.{or_parts, leb-false}
use Rattle.pl_event.specs.Numbers.{hart_of}
use Rattle.pl_event.specs.declared.log.Point.{Point}
use Rattle.pl_event.specs.declared.log.Record.{Record}
use Rattle.log_grammar.specs.Arcs.{arcs_in, Sums, is_rising, highest_hart}
use Rattle.log_grammar.specs.Spelling.{Entry, points_from}
use Rattle.log_text.specs.Tally.{Keeps}
use Rattle.log_text.specs.WellFormed.{records_in, names_past, breaks_hart, breaks_arc}
use Rattle.log_grammar.specs.declared.points.ArcList.{ArcList}
use Rattle.log_text.specs.declared.tally.Tally.{Tally}
use Rattle.log_grammar.proofs.ArcLemmas.{any_past}
use Rattle.log_text.proofs.RuleLemmas.{list_any-or, list_any_same}

-- where the harts rise, the arcs that are kept are those of the line
pub breaks_arc-kept : (tally : Tally) (before : List Entry) (what : Record) (arcs : List Point) (list : ArcList) (own : ℕ) →
    Keeps tally before → Sums list arcs → breaks_hart tally.harts what arcs ≡ false → list.rising ≡ true → own ≡ hart_of what →
    list_any (λ (point : Point). eqb point.hart own || ltb (get_or tally.numbers point.hart 0) point.number) (points_from 0 (arcs_in list.numbers)) ≡ breaks_arc before what arcs
breaks_arc-kept tally before what arcs list own keeps sums sound rises same =
    let rising : is_rising arcs ≡ true = sym sums.rising ∙ rises in
    let within : list_any (λ (point : Point). leb tally.harts point.hart) arcs ≡ false
    = (or_parts (names_past tally.harts what) (list_any (λ (point : Point). leb tally.harts point.hart) arcs) sound).1 in
    let under = leb-false tally.harts (highest_hart arcs) (any_past tally.harts arcs keeps.some ∙ within) in
    let few = keeps.few in
    let low : highest_hart arcs < 8 = omega arith in
    ap (list_any (λ (point : Point). eqb point.hart own || ltb (get_or tally.numbers point.hart 0) point.number)) (sums.kept rising low)
    ∙ list_any_same (λ (point : Point). leb tally.harts point.hart)
    (λ (point : Point). eqb point.hart own || ltb (get_or tally.numbers point.hart 0) point.number)
    (λ (point : Point). eqb point.hart (hart_of what) || ltb (records_in point.hart before) point.number)
    arcs
    (λ point fine.
    let less = leb-false tally.harts point.hart fine in
    rw (same, keeps.numbers point.hart (omega arith)) refl)
    within
    ∙ list_any-or (λ (point : Point). eqb point.hart (hart_of what)) (λ (point : Point). ltb (records_in point.hart before) point.number) arcs
    ∙ rw rising (ap (λ b. b || list_any (λ (point : Point). ltb (records_in point.hart before) point.number) arcs)
    (sym (or-false (list_any (λ (point : Point). eqb point.hart (hart_of what)) arcs))))
