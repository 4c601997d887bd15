use Rattle.std.proofs.Common.{◌≡◌, ◌+◌, ◌≤◌, List, ◌++◌, ap, sym, ◌∙◌, subst, append_assoc, arith}
use Rattle.pl_event.specs.declared.log.Line.{Line}
use Rattle.conflict_alerts.specs.Placing.{notice_to, notices_below}
use Rattle.conflict_alerts.specs.Placer.{Counts}
use Rattle.conflict_alerts.proofs.Telling.{below_next}
use Rattle.conflict_alerts.proofs.placer.Placer.tell.Goals as goal

pub loop-u-preserved : goal.loop-u-preserved
loop-u-preserved c =
    let h = c.args.of.hart in
    let n = c.args.of.number in
    let u = c.loop-u.u in
    let i = c.loop-u.invariant in
    let told = c.in_ok-tell_hart.ensures in (
      told.harts ∙ i.0,
      told.lines ∙ (ap (λ (z : List Line). z ++ notice_to u h n) i.1 ∙ (append_assoc c.args.lines.now.items (notices_below h n u) (notice_to u h n) ∙ ap (λ (z : List Line). c.args.lines.now.items ++ z) (sym (below_next h n u)))),
      λ g counts. subst (Counts c.tell_hart.new.self.records) (append_assoc g (notices_below h n u) (notice_to u h n) ∙ ap (λ (z : List Line). g ++ z) (sym (below_next h n u))) (told.counts (g ++ notices_below h n u) (i.2 g counts)),
      λ w le. told.others w (λ e. let l : u + 1 ≤ w = le in let s : w ≡ u = e in absurd (omega arith)) ∙ i.3 w (let l : u + 1 ≤ w = le in omega arith),
      told.own ∙ i.4,
    )
