use Rattle.std.proofs.Common.{[], ◌∷◌, ◌++◌, ◌+◌, ◌∙◌, subst, append_assoc, slice_index}
use Rattle.std.proofs.lemmas.Result.{on_ok_weaker}
use Rattle.pl_event.specs.declared.log.Record.TheVariants as entry
use Rattle.conflict_alerts.specs.Placing.{notices_below}
use Rattle.conflict_alerts.specs.Placer.{Counts}
use Rattle.conflict_alerts.proofs.placer.Placer.add_event.Goals as goal

pub returns-clause-counts : goal.returns-clause-counts
returns-clause-counts c = on_ok_weaker c.add.result (λ more g counts.
    let event = c.args.event.now in
    let number = slice_index c.args.self.now.records event.hart + 1 in
    let told = notices_below event.hart number c.told_below-below.result in
    subst (Counts c.add.new.self.records)
    (append_assoc g told ((record { what = entry.Event event; arcs = c.none.result }) ∷ [])
    ∙ (λ d. g ++ (notices_below event.hart number (c.told_below-below.ensures d) ++ (record { what = entry.Event event; arcs = c.none.ensures d }) ∷ [])))
    (more (g ++ told) (c.in_ok-tell.ensures.counts g counts)))
    c.add.ensures.counts
