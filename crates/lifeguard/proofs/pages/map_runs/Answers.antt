use Rattle.std.proofs.Common.{◌∙◌, sym, ap, get_or}
use Rattle.std.specs.Prelude.{Some}
use Rattle.std.proofs.lemmas.List.Sums.{fold_more}
use Rattle.pl_event.specs.declared.log.PageKind.TheVariants.{Data}
use Rattle.pl_event.specs.declared.log.PageRun.{PageRun}
use Rattle.lifeguard.specs.State.{Bytes, paged}
use Rattle.lifeguard.specs.Shadow.{bytes_in}
use Rattle.lifeguard.proofs.pages.map_runs.Goals as goal

pub loop-run-preserved : goal.loop-run-preserved
loop-run-preserved g c =
    let rules = g.L.Lifeguard.rules c.args.guard in
    let f = λ (bytes : Bytes) (run : PageRun). paged (Some (rules.page_state run.kind)) run.first run.count bytes in
    let none : PageRun = record { first = 0; count = 0; kind = Data } in
    c.map_pages.ensures ∙ ap (λ (bytes : Bytes). f bytes (get_or c.args.runs.now c.loop-run.run-index none)) (c.make_room.ensures.same ∙ c.loop-run.invariant)
    ∙ sym (fold_more f (bytes_in c.args.pages.now) c.args.runs.now c.loop-run.run-index none c.loop-run-test.true)
